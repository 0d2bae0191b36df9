-- What is in hand after a list was asked, by what was in hand before.
use Rattle.std.proofs.Common.{◌≡◌, ◌∙◌, ℕ, Bool, true, false, Option, Some, None, Result, Ok, Err, IfErr, is_some, refl, sym}
use Rattle.region_words.specs.declared.chunk.Chunk.{Chunk}
use Rattle.dsa_area.specs.declared.area.Area.{Area}
use Rattle.dsa_area.specs.declared.area.AreaPass.{AreaPass}
use Rattle.area_spares.specs.Spares.{IsLacking, IsTakenOut, batch_of, class_of, kept_of}
use Rattle.area_spares.specs.declared.spares.Spares.{Spares}
use Rattle.item_spares.specs.Filled.{IsFilled}

-- an item was in hand
pub held : (a : Area) (p : AreaPass) (s : Spares) (o : Option Chunk) (some : Bool) → some ≡ is_some o → some ≡ true → IsFilled a p p s s o o
held a p s (Some c) some e f = (refl, refl, refl)
held a p s None some e f = absurd (let z : false ≡ true = sym e ∙ f in cc)

module _ (a : Area) (p q : AreaPass) (old new : Spares) where
  -- none was, and the list gave one
  pub came : (o : Option Chunk) (some : Bool) → some ≡ is_some o → some ≡ false → (c : Chunk) → IsTakenOut a p q (class_of old) (batch_of old) (kept_of old) (kept_of new) c → IsFilled a p q old new o (Some c)
  came (Some x) some e f c given = absurd (let z : true ≡ false = sym e ∙ f in cc)
  came None some e f c given = given

  -- none was, and list and area had none
  pub lacked : (o : Option Chunk) (some : Bool) → some ≡ is_some o → some ≡ false → (wanted largest : ℕ) → IsLacking a p q (class_of old) (batch_of old) (kept_of old) (kept_of new) wanted largest → IsFilled a p q old new o o
  lacked (Some x) some e f wanted largest lack = absurd (let z : true ≡ false = sym e ∙ f in cc)
  lacked None some e f wanted largest lack = (wanted, largest, lack)

pub err_weaker : {T E : Type 0} (r : Result T E) (P Q : E → Type 0) → ((e : E) → P e → Q e) → IfErr r P → IfErr r Q
err_weaker (Ok x) P Q f h = tt
err_weaker (Err e) P Q f h = f e h

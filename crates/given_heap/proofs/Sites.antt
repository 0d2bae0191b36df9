-- The machine values of a site and of a caller's memory, and the queue as a box's machinery sees it. Assumes `Logic`.
use mathlib.Core.Path.{◌≡◌, refl, subst}
use mathlib.Core.List.{List, [], ◌∷◌, ◌++◌}
use Prim.Native.Nat.{ℕ, ◌<◌, ◌^◌}
use mir.Syntax.{impl, tnil, dnil, w64, ty_ptr}
use mir.Val.{Val, vint, vstruct, vcons, vnil, of_list, has_ty}
use types.Kit.{Item, Goal, Seq, Step, step, ‵, ◌$◌, drop, fsplit, fjoin, fpick, fpack, feq_i, feq_l, flt_l}
use denote.RattleType.{Valss}
use denote.Builtin.{RawPtr, usize}
use denote.Plain.{uint_Makes}
use denote.Param.{layout}
use denote.RawPtr.{Ptr, ptr_val, rawptr_Lawful}
use denote.Signature.{Slot, plain}
use denote.Steps.{nothing, owned}
use denote.Struct.Struct.{within}
use denote.Struct.Owning.{shape}
use seplogic.Ra.Ura.{Ura}
use types.Logic.{Logic}
use Rattle.std_alloc.proofs.ResultValues.{and_tt}
use Rattle.core.proofs.cell.Inside.{Good}
use Rattle.given_heap.specs.Owned.{bytes_at}
use Rattle.given_heap.specs.contracts.Given as Given

abbrev pub FromGiven : Slot 0
FromGiven = plain (λ _. Given.the_row)

-- the word of a site, and the two of a caller's memory
abbrev pub word : Val → Val
word p = vstruct (vcons p vnil)

abbrev pub pair : Val → ℕ → Val
pair p n = vstruct (vcons p (vcons (vint w64 n) vnil))

pub pair_good : {M : Type 1} {𝓤 : Ura M} (𝓛 : Logic 𝓤) (p : Ptr) (n : ℕ) → n < 2 ^ 64 → Good (layout Given.the_row) (pair (ptr_val p) n)
pair_good 𝓛 p n low = let typed = (rawptr_Lawful 𝓛).typed p (ptr_val p ∷ []) refl in (and_tt (has_ty ty_ptr (ptr_val p)) typed.0.0, (typed.0.1, (record { fits = low }, tt)))

module _ {M : Type 1} {𝓤 : Ura M} {𝓛 : Logic 𝓤} {K : Type 0} {Γ : List (Item 𝓤)} {G : Goal 𝓤 𝓛.H} where
  pub given_in : K → (d : Given.the_row.Denot) → d.size < 2 ^ 64 → Step K 𝓛 (‵ (Given.the_row.own_val d (pair (ptr_val d.at) d.size ∷ [])) ∷ Γ) G (‵ (bytes_at d.at d.size) ∷ Γ) G
  given_in t d low = step (λ s. let w : Val = pair (ptr_val d.at) d.size in
      nothing t $ owned t usize _ (uint_Makes 𝓛 w64) d.size (vint w64 d.size ∷ []) (refl, low) $ fjoin t $ feq_i t (List Val) (ptr_val d.at ∷ []) (ptr_val d.at ∷ []) refl $ fjoin t $ feq_i t (List Val) (w ∷ []) (w ∷ []) refl $ fjoin t $
      fpack t (Valss (RawPtr ∷ usize ∷ [])) (within (shape Given.the_type) (d.at, (d.size, tt)) (w ∷ [])) (ptr_val d.at ∷ [], (vint w64 d.size ∷ [], tt)) $ fjoin t $ s)

  pub given_out : K → (d : Given.the_row.Denot) (vs : List Val) → (vs ≡ pair (ptr_val d.at) d.size ∷ [] → d.size < 2 ^ 64 → Seq K 𝓛 (‵ (bytes_at d.at d.size) ∷ Γ) G) → Seq K 𝓛 (‵ (Given.the_row.own_val d vs) ∷ Γ) G
  given_out t d vs k =
      fsplit t $ fpick t (λ vss. fsplit t $ feq_l t (λ ev. fsplit t $ feq_l t (λ ep. fsplit t $ fsplit t $ feq_l t (λ en. flt_l t (λ low. drop t $ k
      (subst (λ (ws : List Val). vs ≡ vstruct (of_list (ptr_val d.at ∷ (ws ++ []))) ∷ []) en (subst (λ (ps : List Val). vs ≡ vstruct (of_list (ps ++ (vss.1.0 ++ []))) ∷ []) ep ev)) low)))))

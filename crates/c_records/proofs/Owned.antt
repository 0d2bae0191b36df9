-- The machine value of a handle, and the box that it owns. Assumes `Logic`.
use mathlib.Core.Path.{◌≡◌, refl, sym, subst}
use mathlib.Core.List.{List, [], ◌∷◌, ◌++◌}
use Prim.Native.Nat.{ℕ, ◌<◌, ◌^◌}
use lib.Dec.{lit<}
use seplogic.Ra.Ura.{Ura}
use mir.Syntax.{impl, tnil, dnil, w64, ty_ptr}
use mir.Val.{Val, vint, vstruct, of_list, has_ty}
use types.Logic.{Logic}
use types.Kit.{Item, Goal, Seq, Step, step, ‵, ◌$◌, drop, fsplit, fjoin, fpick, fpack, feq_i, feq_l}
use denote.RattleType.{Valss}
use denote.Builtin.{RawPtr, u64}
use denote.Plain.{uint_Makes}
use denote.RawPtr.{Ptr, ptr_val, rawptr_Lawful}
use denote.Param.{layout}
use denote.Signature.{Slot, plain}
use denote.Steps.{nothing, owned}
use denote.Struct.Struct.{within}
use denote.Struct.Owning.{shape}
use Rattle.std.specs.Prelude.{Option, None, Some}
use Rattle.std_alloc.proofs.BoxSteps.Form.{Bx}
use Rattle.std_heap.specs.contracts.Global as Heap
use Rattle.std_heap.specs.contracts.GlobalAllocator.TheImpl.{ghosts, dict}
use Rattle.std_heap.proofs.Global.TheLaws as heap
use Rattle.loose_box.specs.contracts.Loose as Loose
use Rattle.c_table.proofs.Owned.{words}
use Rattle.c_records.specs.Owned.{caller_owns, tag_of}
use Rattle.core.proofs.cell.Inside.{Good}
use Rattle.std_alloc.proofs.ResultValues.{and_tt}
use Rattle.c_records.specs.contracts.caller.Caller as Caller
use Rattle.c_records.proofs.caller.Caller.TheLaws as caller
use Rattle.c_records.specs.contracts.handle.Handle as Handle

-- a box of a caller
abbrev pub E : Bx
E = record { row = Caller.the_row; laws = caller.the_row_laws; al = record { row = Heap.the_row; laws = heap.the_row_laws; g = ghosts; d = dict; drops = impl [] tnil dnil } }

-- a box's parts and a handle as parameters
abbrev pub FromLoose : Slot 0
FromLoose = plain (λ _. Loose.the_row Caller.the_row Heap.the_row ghosts)

abbrev pub FromHandle : Slot 0
FromHandle = plain (λ _. Handle.the_row)

pub few_of : (o : Option Caller.the_row.Denot) → tag_of o < 2 ^ 64
few_of None = lit< tt
few_of (Some x) = lit< tt

-- the tag of a handle is a word
pub few : (d : Handle.the_row.Denot) → d.full < 2 ^ 64
few d = subst (λ (n : ℕ). n < 2 ^ 64) (sym d.tag) (few_of d.value)

pub words_good : {M : Type 1} {𝓤 : Ura M} (𝓛 : Logic 𝓤) (p : Ptr) (n : ℕ) → n < 2 ^ 64 → Good (layout Handle.the_row) (words (ptr_val p) n)
words_good 𝓛 p n low = let typed = (rawptr_Lawful 𝓛).typed p (ptr_val p ∷ []) refl in (and_tt (has_ty ty_ptr (ptr_val p)) typed.0.0, (typed.0.1, (record { fits = low }, tt)))

module _ {M : Type 1} {𝓤 : Ura M} {𝓛 : Logic 𝓤} {K : Type 0} {Γ : List (Item 𝓤)} {G : Goal 𝓤 𝓛.H} where
  pub handle_in : K → (d : Handle.the_row.Denot) → Step K 𝓛 (‵ (Handle.the_row.own_val d (words (ptr_val d.at) d.full ∷ [])) ∷ Γ) G (‵ (caller_owns d.at d.value) ∷ Γ) G
  handle_in t d = step (λ s. let w : Val = words (ptr_val d.at) d.full in
      nothing t $ owned t u64 _ (uint_Makes 𝓛 w64) d.full (vint w64 d.full ∷ []) (refl, few d) $ fjoin t $ feq_i t (List Val) (ptr_val d.at ∷ []) (ptr_val d.at ∷ []) refl $ fjoin t $ feq_i t (List Val) (w ∷ []) (w ∷ []) refl $ fjoin t $
      fpack t (Valss (RawPtr ∷ u64 ∷ [])) (within (shape Handle.the_type) (d.at, (d.full, tt)) (w ∷ [])) (ptr_val d.at ∷ [], (vint w64 d.full ∷ [], tt)) $ fjoin t $ s)

  pub handle_out : K → (d : Handle.the_row.Denot) (vs : List Val) → (vs ≡ words (ptr_val d.at) d.full ∷ [] → Seq K 𝓛 (‵ (caller_owns d.at d.value) ∷ Γ) G) → Seq K 𝓛 (‵ (Handle.the_row.own_val d vs) ∷ Γ) G
  handle_out t d vs k =
      fsplit t $ fpick t (λ vss. fsplit t $ feq_l t (λ ev. fsplit t $ feq_l t (λ ep. fsplit t $ fsplit t $ feq_l t (λ en. drop t $ drop t $ k
      (subst (λ (ws : List Val). vs ≡ vstruct (of_list (ptr_val d.at ∷ (ws ++ []))) ∷ []) en (subst (λ (ps : List Val). vs ≡ vstruct (of_list (ps ++ (vss.1.0 ++ []))) ∷ []) ep ev))))))

-- The groups of a sum have a text.
use Rattle.std.proofs.Common.{◌≡◌, ◌<◌, ◌+◌, ◌∙◌, ℕ, List, [], All, Some, ap, arith, bytes_eq, get_or, length, map, subst, sym, take}
use Rattle.std.proofs.lemmas.List.Elements.{All-more}
use Rattle.std.proofs.lemmas.List.{get_or-map, take_all}
use Rattle.std.proofs.lemmas.Option.{get_or_from_slice_get}
use Rattle.std.proofs.lemmas.Simd.{map-map}
use Rattle.std.specs.FinMap as finite
use Rattle.std.specs.List.{IsDistinct, slice_get}
use Rattle.par_model.specs.Plan.{Plan}
use Rattle.par_model.specs.declared.state.AggState.{AggState}
use Rattle.par_model.specs.declared.state.SlotState.{SlotState}
use Rattle.partial_agg.specs.Groups.{GroupsByKey}
use Rattle.partial_agg.specs.State.{empty_state}
use Rattle.partial_agg.specs.Listed.{group, listed}
use Rattle.partial_agg.specs.declared.groups.Group.{Group}
use Rattle.partial_agg.proofs.Entries.{IsDistinct-keys}
use Rattle.result_text.specs.Printable.{ArePrintable, IsKeyOf, IsSmallSlot}
use Rattle.state_finalize.specs.Finished.{HaveSmallSlots}

pub printable : (plan : Plan) (m : GroupsByKey) (groups : List Group) → groups ≡ listed m → All (λ (g : Group). IsKeyOf (length plan.groups) g.key) (listed m) → HaveSmallSlots groups → ArePrintable plan groups
printable plan m groups is keys small = record {
  different = subst (IsDistinct bytes_eq) (sym (ap (map (λ (g : Group). g.key)) is ∙ map-map (λ (g : Group). g.key) group (finite.entries m))) (IsDistinct-keys m);
  keys = subst (All (λ (g : Group). IsKeyOf (length plan.groups) g.key)) (sym is) keys;
  slots = small;
}

-- ---- small slots

-- the state at a place
state_at_place : (groups : List Group) (at : ℕ) (s : AggState) → slice_get (map (λ (g : Group). g.state) groups) at ≡ Some s → at < length groups → (d : Group) → (get_or groups at d).state ≡ s
state_at_place groups at s is lt d = sym (get_or-map (λ (g : Group). g.state) groups at d s lt) ∙ get_or_from_slice_get (map (λ (g : Group). g.state) groups) at s s is

abbrev has_small : Group → Type 0
has_small g = All IsSmallSlot g.state.slots

no_group : Group
no_group = record { key = []; state = empty_state }

pub groups_more : (groups : List Group) (at : ℕ) (s : AggState) → slice_get (map (λ (g : Group). g.state) groups) at ≡ Some s → at < length groups → HaveSmallSlots (take at groups) → All IsSmallSlot s.slots → HaveSmallSlots (take (at + 1) groups)
groups_more groups at s is lt before small =
    All-more has_small groups at no_group lt before (subst (λ (t : AggState). All IsSmallSlot t.slots) (sym (state_at_place groups at s is lt no_group)) small)

pub groups_not : (groups : List Group) (at : ℕ) (s : AggState) → slice_get (map (λ (g : Group). g.state) groups) at ≡ Some s → at < length groups → (All IsSmallSlot s.slots → ⊥) → HaveSmallSlots groups → ⊥
groups_not groups at s is lt not all = not (subst (λ (t : AggState). All IsSmallSlot t.slots) (state_at_place groups at s is lt no_group) (all at no_group lt))

pub groups_all : (groups : List Group) (at : ℕ) → at ≡ length groups → HaveSmallSlots (take at groups) → HaveSmallSlots groups
groups_all groups at end before = subst HaveSmallSlots (take_all at groups (omega (arith, end))) before

pub slots_more : (slots : List SlotState) (at : ℕ) (s : SlotState) → ((d : SlotState) → s ≡ get_or slots at d) → at < length slots → All IsSmallSlot (take at slots) → IsSmallSlot s → All IsSmallSlot (take (at + 1) slots)
slots_more slots at s is lt before small = All-more IsSmallSlot slots at s lt before (subst IsSmallSlot (is s) small)

pub slots_not : (slots : List SlotState) (at : ℕ) (s : SlotState) → ((d : SlotState) → s ≡ get_or slots at d) → at < length slots → (IsSmallSlot s → ⊥) → All IsSmallSlot slots → ⊥
slots_not slots at s is lt not all = not (subst IsSmallSlot (sym (is s)) (all at s lt))

pub slots_all : (slots : List SlotState) (at : ℕ) → at ≡ length slots → All IsSmallSlot (take at slots) → All IsSmallSlot slots
slots_all slots at end before = subst (All IsSmallSlot) (take_all at slots (omega (arith, end))) before

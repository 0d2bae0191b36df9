-- The groups of a range have a text.
use Rattle.std.proofs.Common.{◌≡◌, ℕ, List, All, length, subst, sym}
use Rattle.par_model.specs.Named.{NamedPlan}
use Rattle.par_model.specs.Plan.{Plan}
use Rattle.partial_agg.specs.Groups.{GroupsByKey}
use Rattle.partial_agg.specs.Listed.{listed}
use Rattle.partial_agg.specs.declared.groups.Group.{Group}
use Rattle.result_text.specs.Printable.{IsSmallSlot}
use Rattle.state_head.specs.Words.{Keys}
use Rattle.state_finalize.specs.Finished.{HaveSmallSlots}
use Rattle.state_order.proofs.Kept.{each_within}
use Rattle.state_order.specs.Ranges.{AreWithin}
use Rattle.state_range.specs.Ranges.{IsTextAfter, IsTextWithin}

-- if the slots of all groups are small, so are those of the groups of a range
pub not_small : (n : ℕ) (range : Keys) (m within : GroupsByKey) (groups : List Group) → groups ≡ listed within → AreWithin n range m within → (HaveSmallSlots groups → ⊥) → HaveSmallSlots (listed m) → ⊥
not_small n range m within groups is are not all = not (subst HaveSmallSlots (sym is) (each_within (λ (g : Group). All IsSmallSlot g.state.slots) n range m within are all))

-- the text of the groups of a range, in a piece
pub text_within : (names : NamedPlan) (plan : Plan) (range : Keys) (m within : GroupsByKey) (groups : List Group) (text piece : List ℕ) → groups ≡ listed within → AreWithin (length plan.groups) range m within → IsTextAfter names plan range.low groups text → piece ≡ text
    → IsTextWithin names plan range m piece
text_within names plan range m within groups text piece is are after same = record {
  groups = within;
  are_within = are;
  is_text = subst (IsTextAfter names plan range.low (listed within)) (sym same) (subst (λ (gs : List Group). IsTextAfter names plan range.low gs text) is after);
}

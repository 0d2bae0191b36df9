use Rattle.std.proofs.Common.{◌≡◌, ◌∙◌, ap, subst, sym, length}
use Rattle.std.specs.Prelude.{All}
use Rattle.std.specs.List.Sorted.{IsPermutation}
use Rattle.partial_agg.specs.Listed.{listed, listed_at}
use Rattle.partial_agg.specs.Placed.{AreListed}
use Rattle.partial_agg.specs.declared.groups.Group.{Group}
use Rattle.partial_agg.proofs.Grouped.{lent_listed, listed_moved}
use Rattle.partial_agg.proofs.Placed.{whole-listed_at}
use Rattle.partial_agg.proofs.map.GroupMap.lent.Goals as goal

pub of_parts-requires : goal.of_parts-requires
of_parts-requires c =
    let keys = c.self.inside.keys in
    let count = length c.self.inside.states in
    subst (AreListed keys count) (sym c.as_slice.ensures.value) (lent_listed keys count c.self.inside.left.items c.self.inside.whole c.self.inside.sorted c.self.invariant)

pub returns-clause-groups : goal.returns-clause-groups
returns-clause-groups c =
    let keys = c.self.inside.keys in
    let states = c.self.inside.states in
    subst (IsPermutation (listed c.args.self.now)) (sym (c.of_parts.ensures ∙ ap (listed_at keys states) c.as_slice.ensures.value))
    (listed_moved c.args.self.now keys states c.self.inside.left.items c.self.inside.whole c.self.inside.sorted c.self.view_is c.self.invariant)

pub returns-clause-whole : goal.returns-clause-whole
returns-clause-whole c =
    let keys = c.self.inside.keys in
    let states = c.self.inside.states in
    subst (All (λ (group : Group). length group.state.slots ≡ 8)) (sym c.of_parts.ensures)
    (whole-listed_at keys states c.as_slice.result.now c.are_whole.ensures)

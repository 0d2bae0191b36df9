use Rattle.std.proofs.Common.{Bool, length, reverse, subst, sym, true}
use Rattle.partial_agg.specs.Blocks.{AddedFirst}
use Rattle.partial_agg.specs.Groups.{GroupsByKey}
use Rattle.partial_agg.specs.Placed.{IsGrouped}
use Rattle.partial_agg.proofs.map.GroupMap.add_near.Goals as goal

pub returns-clause-added : goal.returns-clause-added
returns-clause-added c = λ start so_far.
    let keys = c.self.inside.keys in
    let left = reverse c.self.inside.left.items in
    let sorted = c.self.inside.sorted in
    let whole : IsGrouped keys (length c.self.inside.states) left true sorted = subst (λ (w : Bool). IsGrouped keys (length c.self.inside.states) left w sorted) c.if-not-self.false c.self.invariant in
    c.add_near.ensures.added left sorted start whole
    (subst (λ (groups : GroupsByKey). AddedFirst c.args.plan.now c.args.rows.now c.args.block c.args.from start groups) (sym c.self.view_is) so_far)

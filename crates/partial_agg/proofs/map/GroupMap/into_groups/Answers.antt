use Rattle.std.proofs.Common.{◌∙◌, ap, refl, sym, subst, length, reverse}
use Rattle.partial_agg.specs.Listed.{listed_at}
use Rattle.partial_agg.specs.Placed.{AreInOrder}
use Rattle.partial_agg.proofs.Grouped.{are_listed, grouped_ordered, listed_in_order}
use Rattle.partial_agg.proofs.map.GroupMap.into_groups.Goals as goal

pub of_parts-requires : goal.of_parts-requires
of_parts-requires c =
    let keys = c.self.inside.keys in
    let count = length c.self.inside.states in
    let old = c.self.inside.left.items in
    let new = c.put_in_order.new.left.items in
    let whole = c.self.inside.whole in
    let ordered = grouped_ordered keys count old new whole c.self.inside.sorted c.self.invariant c.put_in_order.ensures.permutation c.put_in_order.ensures.sorted c.put_in_order.ensures.unchanged in
    subst (AreInOrder keys count) (sym c.reverse.ensures.items) (record { listed = are_listed keys count (reverse new) whole _ ordered; rise = ordered.ordered refl })

pub returns : goal.returns
returns c =
    let keys = c.self.inside.keys in
    let states = c.self.inside.states in
    c.of_parts.ensures
    ∙ ap (listed_at keys states) c.reverse.ensures.items
    ∙ listed_in_order c.args.self keys states c.self.inside.left.items c.put_in_order.new.left.items c.self.inside.whole c.self.inside.sorted c.self.view_is c.self.invariant
    c.put_in_order.ensures.permutation c.put_in_order.ensures.sorted c.put_in_order.ensures.unchanged

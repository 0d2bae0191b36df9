use Rattle.std.proofs.Common.{Bool, length, reverse, subst, sym, true}
use Rattle.partial_agg.specs.Cursor.{AddedSome}
use Rattle.partial_agg.specs.Groups.{GroupsByKey}
use Rattle.partial_agg.specs.Placed.{IsGrouped}
use Rattle.partial_agg.proofs.Cursor.{rest_refused}
use Rattle.partial_agg.proofs.map.GroupMap.add_next.Goals as goal

pub returns-then-not-self-clause-refused : goal.returns-then-not-self-clause-refused
returns-then-not-self-clause-refused g c = rest_refused c.next_row.result c.args.plan.now c.args.width (g.C.RowCursor.left c.args.cursor.now) c.args.count.now c.next_row.ensures.refused

pub returns-clause-stopped : goal.returns-clause-stopped
returns-clause-stopped g c = λ ok start all so_far.
    let keys = c.self.inside.keys in
    let left = reverse c.self.inside.left.items in
    let sorted = c.self.inside.sorted in
    let whole : IsGrouped keys (length c.self.inside.states) left true sorted = subst (λ (w : Bool). IsGrouped keys (length c.self.inside.states) left w sorted) c.if-not-self.false c.self.invariant in
    c.add_next.ensures.stopped ok left sorted start all whole
    (subst (λ (groups : GroupsByKey). AddedSome c.args.plan.now c.args.width all c.args.count.now (g.C.RowCursor.left c.args.cursor.now) start groups) (sym c.self.view_is) so_far)

pub returns-clause-ended : goal.returns-clause-ended
returns-clause-ended g c = λ ok start all so_far.
    let keys = c.self.inside.keys in
    let left = reverse c.self.inside.left.items in
    let sorted = c.self.inside.sorted in
    let whole : IsGrouped keys (length c.self.inside.states) left true sorted = subst (λ (w : Bool). IsGrouped keys (length c.self.inside.states) left w sorted) c.if-not-self.false c.self.invariant in
    c.add_next.ensures.ended ok left sorted start all whole
    (subst (λ (groups : GroupsByKey). AddedSome c.args.plan.now c.args.width all c.args.count.now (g.C.RowCursor.left c.args.cursor.now) start groups) (sym c.self.view_is) so_far)

use Rattle.std.proofs.Common.{ℕ, ap, arith, length}
use Rattle.partial_agg.proofs.Lanes.{place_within}
use Rattle.partial_agg.proofs.states.StateList.add_row.Goals as goal

pub add_by_lanes-requires-clause-place : goal.add_by_lanes-requires-clause-place
add_by_lanes-requires-clause-place g c =
    let here = place_within c.self.inside.layout c.self.inside.rows.items c.self.inside.lanes.items c.args.self.now c.args.at c.self.view_is c.requires.place in
    omega (arith, here, ap (length {A = ℕ}) c.deref_mut.ensures.value)

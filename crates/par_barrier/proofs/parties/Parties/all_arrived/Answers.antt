use Rattle.std.proofs.Common.{◌≡◌, leb, length, refl, rules, ap, ◌∙◌}
use Rattle.par_barrier.specs.Kept.{PartiesView}
use Rattle.par_barrier.specs.Parties.{are_among}
use Rattle.par_barrier.proofs.Rooms.{arrived-by_count}
use Rattle.par_barrier.proofs.parties.Parties.all_arrived.Goals as goal

pub returns : goal.returns
returns c =
    let attached : c.len.result ≡ length c.self.inside.attached.items = search rules in
    let arrived : c.len-2.result ≡ length c.self.inside.arrived.items = search rules in
    arrived-by_count c.self.invariant.0 c.len.result c.len-2.result attached arrived (leb c.len.result c.len-2.result) refl ∙ ap (λ (v : PartiesView). are_among v.state.attached v.state.arrived) c.self.view_is

use Rattle.std.proofs.Common.{◌≡◌, ℕ, List, ◌∷◌, IfSome, slice_get, rules, subst}
use Rattle.par_barrier.specs.Kept.{PartiesView}
use Rattle.par_barrier.proofs.Rooms.{first_is}
use Rattle.par_barrier.proofs.parties.Parties.first_arrived.Goals as goal

pub returns-clause-some : goal.returns-clause-some
returns-clause-some c =
    let first : c.copied.result ≡ slice_get c.self.inside.arrived.items 0 = search rules in
    subst (λ (v : PartiesView). IfSome c.copied.result (λ n. (others : List ℕ) × (v.state.arrived ≡ n ∷ others))) c.self.view_is (first_is c.self.inside.arrived.items c.copied.result first)

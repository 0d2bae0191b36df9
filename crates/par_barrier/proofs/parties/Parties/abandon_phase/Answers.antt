use Rattle.std.proofs.Common.{sym, subst, arith, List, ℕ}
use Rattle.par_barrier.specs.Kept.{AreParties}
use Rattle.par_barrier.proofs.Rooms.{starts_anew}
use Rattle.par_barrier.proofs.parties.Parties.abandon_phase.Goals as goal

pub invariant_of-self : goal.invariant_of-self
invariant_of-self c =
    let i = c.self.invariant in
    (subst (λ (xs : List ℕ). AreParties c.self.inside.callers c.self.inside.attached.items xs) (sym c.clear.ensures.items) (starts_anew i.0), i.1, omega (arith, i.2, c.clear.ensures.capacity))

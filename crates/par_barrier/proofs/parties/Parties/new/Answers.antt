use Rattle.std.proofs.Common.{sym, subst₂}
use Rattle.par_barrier.specs.Kept.{AreParties}
use Rattle.par_barrier.proofs.Rooms.{none_take_part}
use Rattle.par_barrier.proofs.parties.Parties.new.Goals as goal

pub invariant_of-result : goal.invariant_of-result
invariant_of-result c =
    (subst₂ (AreParties c.args.callers) (sym c.in_ok-attached.ensures.items) (sym c.in_ok-arrived.ensures.items) (none_take_part c.args.callers), c.in_ok-attached.ensures.capacity, c.in_ok-arrived.ensures.capacity)

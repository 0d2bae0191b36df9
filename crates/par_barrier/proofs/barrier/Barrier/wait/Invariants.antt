use Rattle.std.proofs.Common.{◌≡◌, ℕ, replicate}
use Rattle.par_barrier.specs.declared.history.BarrierCall.TheVariants.{Look}
use Rattle.par_barrier.specs.declared.history.BarrierReply.TheVariants.{Waiting}
use Rattle.par_barrier.specs.Shown.{Belongs, CalledAll, number_of}
use Rattle.par_barrier.proofs.barrier.Barrier.wait.Given as goal

abbrev pub invariant-loop : goal.invariant-loop
invariant-loop g l = record {
  can_next : (goal.iterator-loop g).can_next l.iterator';
  finite : (goal.iterator-loop g).is_finite l.iterator';
  own : Belongs l.self l.pass;
  number : number_of l.pass ≡ number_of l.fn.pass;
  looked : (looks : ℕ) × CalledAll l.fn.pass l.pass (replicate looks (Look, Waiting));
}

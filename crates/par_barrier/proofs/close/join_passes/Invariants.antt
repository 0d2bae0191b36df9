use Rattle.std.proofs.Common.{◌≡◌, List, ◌++◌, map}
use Rattle.lock_book.specs.Shown.{IsJoined}
use Rattle.par_barrier.specs.declared.barrier.BarrierPass.{BarrierPass}
use Rattle.par_barrier.proofs.close.join_passes.Given as goal

abbrev pub invariant-loop-pass : goal.invariant-loop-pass
invariant-loop-pass l = record {
  joined : (rest : List BarrierPass) × (l.fn.passes.items ≡ l.passes.items ++ rest) × IsJoined l.barrier.shelf (map (λ (p : BarrierPass). p.pass) rest) l.joined;
}

abbrev pub decreases-loop-pass : goal.decreases-loop-pass
decreases-loop-pass l = goal.left-loop-pass l

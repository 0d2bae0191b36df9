use Rattle.job_queue.proofs.Handed.{AreHanded}
use Rattle.job_queue.proofs.queue.Lanes.hand_out.Given as goal

abbrev pub invariant-loop-number : goal.invariant-loop-number
invariant-loop-number g l = AreHanded l.r l.fn.self l.self l.number

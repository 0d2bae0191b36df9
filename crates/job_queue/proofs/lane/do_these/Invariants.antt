use Rattle.std.proofs.Common.{◌≡◌, ◌++◌, map, take}
use Rattle.job_queue.specs.Jobs.{done_of}
use Rattle.job_queue.proofs.lane.do_these.Given as goal

abbrev pub invariant-loop-number : goal.invariant-loop-number
invariant-loop-number l = l.done.items ≡ l.fn.done.items ++ map done_of (take l.number-index l.numbers)

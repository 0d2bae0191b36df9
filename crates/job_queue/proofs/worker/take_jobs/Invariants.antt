use Rattle.std.proofs.Common.{◌≡◌, false, map}
use Rattle.job_queue.specs.Jobs.{done_of}
use Rattle.job_queue.specs.Lanes.{jobs_in}
use Rattle.job_queue.proofs.worker.take_jobs.Given as goal

-- what it did is what it took
abbrev pub invariant-loop : goal.invariant-loop
invariant-loop g l = record {
  here : l.q.region ≡ l.r;
  ring : l.q.end.ring ≡ l.fn.q.end.ring;
  stays : l.q.end.gone ≡ false;
  did : l.done.items ≡ map done_of (jobs_in l.q.end.taken);
}

use Rattle.std.proofs.Common.{◌≡◌, ◌∙◌, ◌++◌, List, map, rules}
use Rattle.job_queue.specs.declared.job.Done.{Done}
use Rattle.job_queue.specs.Jobs.{done_of}
use Rattle.job_queue.specs.Lanes.{AreDealt}
use Rattle.job_queue.proofs.Numbers.{both_done}
use Rattle.job_queue.proofs.queue.run.Goals as goal

-- the jobs of both lanes are those below the count, and all of them are done
pub returns : goal.returns
returns g c =
    let lanes = c.in_ok-lanes.lanes in
    let dealt : AreDealt c.args.count lanes = search rules in
    both_done c.args.count lanes.one.jobs.items lanes.other.jobs.items c.append.new.self.items dealt
    (c.in_ok-append.ensures.items ∙ (λ i. c.in_ok-done.ensures i ++ c.in_ok-settle.ensures i))

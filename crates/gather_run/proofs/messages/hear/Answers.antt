use Rattle.gather_run.proofs.Looking.{hears_end}
use Rattle.gather_run.proofs.messages.hear.Goals as goal

pub returns-in-Over-clause-heard : goal.returns-in-Over-clause-heard
returns-in-Over-clause-heard g c =
    let look = c.in-Over.ensures.look in
    hears_end c.args.queue.now _ c.args.groups.now c.take_tuples.new.groups c.hear_end.result look.0 look.1 c.hear_end.ensures.heard

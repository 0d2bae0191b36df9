use Rattle.gather_run.proofs.Looking.{over_of}
use Rattle.gather_run.proofs.messages.hear_end.Goals as goal

pub returns-in-Over-clause-heard : goal.returns-in-Over-clause-heard
returns-in-Over-clause-heard g c = over_of c.hear_last.new.errors.end c.in-Over.ensures.news

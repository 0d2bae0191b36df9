use Rattle.agg_table.specs.Shown.{use_in}
use Rattle.worker_run.proofs.AtWork.{passed_many}
use Rattle.worker_run.proofs.passing.pass_many.Goals as goal

pub returns-clause-passed : goal.returns-clause-passed
returns-clause-passed g c =
    passed_many c.args.slots (use_in c.args.seat.now) (use_in c.pass_all.new.seat) c.args.groups.now c.pass_all.new.groups c.args.tuples.now.end c.pass_all.new.tuples.end c.pass_all.result c.pass_all.ensures.passed

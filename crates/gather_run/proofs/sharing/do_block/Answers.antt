use Rattle.gather_run.proofs.Shares.{stops_if}
use Rattle.gather_run.proofs.sharing.do_block.Goals as goal

pub returns-in-None-clause-stopped : goal.returns-in-None-clause-stopped
returns-in-None-clause-stopped g c = stops_if c.args.job.now.plan.now c.args.job.now.rows.now c.args.block c.args.groups.now c.add_block.new.self c.add_block.result c.add_block.ensures.stopped

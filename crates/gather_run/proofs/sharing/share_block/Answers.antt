use Rattle.gather_run.proofs.Shares.{stops_at}
use Rattle.gather_run.proofs.sharing.share_block.Goals as goal

pub returns-in-Err-clause-stopped : goal.returns-in-Err-clause-stopped
returns-in-Err-clause-stopped g c = stops_at c.args.job.now.plan.now c.args.job.now.rows.now c.args.block c.args.kept.now c.add_block.new.self c.in-Err.why c.in-Err.ensures.stopped

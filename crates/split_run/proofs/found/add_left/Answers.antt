use Rattle.split_run.proofs.FoundPiece.{cause-of}
use Rattle.split_run.proofs.found.add_left.Goals as goal

pub returns-in-Err-clause-refused : goal.returns-in-Err-clause-refused
returns-in-Err-clause-refused c = cause-of c.args.plan.now c.args.rows.now.row c.args.rows.now.left c.width-width.result c.in-Err.why c.width-width.ensures.width c.in-Err.ensures.refused

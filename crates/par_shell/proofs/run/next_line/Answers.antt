use Rattle.par_shell.proofs.Pieces.{next-at, next-last, shorter-at, some-left}
use Rattle.par_shell.proofs.run.next_line.Goals as goal

pub returns-in-Some-clause-line : goal.returns-in-Some-clause-line
returns-in-Some-clause-line c = next-at c.args.script.now c.in-Some.at c.in-Some.ensures

pub returns-in-Some-clause-shorter : goal.returns-in-Some-clause-shorter
returns-in-Some-clause-shorter c = shorter-at c.args.script.now c.in-Some.at c.in-Some.ensures

pub returns-in-None-clause-line : goal.returns-in-None-clause-line
returns-in-None-clause-line c = next-last c.args.script.now c.in-None.ensures (some-left c.args.script.now c.is_empty.result c.is_empty.ensures c.if-is_empty.false)

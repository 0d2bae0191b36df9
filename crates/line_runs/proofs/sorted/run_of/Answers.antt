use Rattle.std.proofs.Common.{◌∙◌, ap, arith, map, take_all}
use Rattle.line_runs.specs.Order.{entry_at}
use Rattle.line_runs.specs.declared.order.LineRef.{LineRef}
use Rattle.line_runs.proofs.Stretches.{run_more}
use Rattle.line_runs.proofs.sorted.run_of.Goals as goal

abbrev none : LineRef
none = record { number = 0; run = 0; at = 0 }

pub loop-line-preserved : goal.loop-line-preserved
loop-line-preserved c =
    run_more c.args.runs.now c.args.lines.now c.loop-line.line-index none c.loop-line.run _ _ c.loop-line-test.true c.loop-line.invariant c.in_ok-run-2.ensures c.entry.ensures

pub returns : goal.returns
returns c = c.loop-line.invariant ∙ ap (map (entry_at c.args.runs.now)) (take_all c.loop-line.line-index c.args.lines.now (omega arith))

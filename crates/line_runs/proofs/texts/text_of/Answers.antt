use Rattle.std.proofs.Common.{◌++◌, ◌∙◌, ℕ, List, ap}
use Rattle.line_runs.specs.declared.order.LineRef.{LineRef}
use Rattle.line_runs.proofs.Stretches.{text_more}
use Rattle.line_runs.proofs.texts.text_of.Goals as goal

abbrev none : LineRef
none = record { number = 0; run = 0; at = 0 }

pub loop-line-preserved : goal.loop-line-preserved
loop-line-preserved c =
    text_more c.args.runs.now c.args.lines.now c.loop-line.line-index none c.loop-line.text.items c.extend_from_slice.new.self.items c.loop-line-test.true c.loop-line.invariant
    (c.in_ok-extend_from_slice.ensures.items ∙ ap (λ (t : List ℕ). c.loop-line.text.items ++ t) c.line.ensures)

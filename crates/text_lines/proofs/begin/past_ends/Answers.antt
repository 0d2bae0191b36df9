use Rattle.std.proofs.Common.{◌∙◌, arith, sym}
use Rattle.text_lines.proofs.Ends.{ends_more, no_end_past}
use Rattle.text_lines.proofs.begin.past_ends.Goals as goal

pub ends-init : goal.ends-init
ends-init c = λ at low high. absurd (omega (arith, low, high))

pub ends-preserved : goal.ends-preserved
ends-preserved c = ends_more c.args.bytes.now c.args.from c.ends.at c.ends.invariant (sym c.ends_line.ensures ∙ c.if-not-ends_line.false)

pub returns-then-not-ends_line-clause-ends : goal.returns-then-not-ends_line-clause-ends
returns-then-not-ends_line-clause-ends c = c.ends.invariant

pub returns-then-not-ends_line-clause-other : goal.returns-then-not-ends_line-clause-other
returns-then-not-ends_line-clause-other c = sym c.ends_line.ensures ∙ c.if-not-ends_line.true

pub returns-clause-ends : goal.returns-clause-ends
returns-clause-ends c = λ at low high. c.ends.invariant at low (omega (arith, high, c.ends-test.false))

pub returns-clause-other : goal.returns-clause-other
returns-clause-other c = no_end_past c.args.bytes.now

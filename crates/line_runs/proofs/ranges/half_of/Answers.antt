use Rattle.std.proofs.Common.{◌∙◌, ap, arith, sym}
use Rattle.line_runs.specs.Ranges.{is_before}
use Rattle.line_runs.proofs.Cuts.{after_from, none_until}
use Rattle.line_runs.proofs.ranges.half_of.Goals as goal

pub returns-then-is_before-clause-before : goal.returns-then-is_before-clause-before
returns-then-is_before-clause-before c = λ k from lt. absurd (omega (arith, from, lt))

pub returns-then-is_before-clause-after : goal.returns-then-is_before-clause-after
returns-then-is_before-clause-after c = λ k from lt.
    let yes = ap (is_before c.args.columns c.args.key.now) (sym c.key.ensures) ∙ sym c.is_before.ensures ∙ c.if-is_before.true in
    after_from c.args.columns c.args.run.now c.args.key.now c.requires.rises _ k from (omega (arith, lt, c.requires.within)) yes

pub returns-clause-before : goal.returns-clause-before
returns-clause-before c = λ k from lt.
    let no = ap (is_before c.args.columns c.args.key.now) (sym c.key.ensures) ∙ sym c.is_before.ensures ∙ c.if-is_before.false in
    none_until c.args.columns c.args.run.now c.args.key.now c.requires.rises _ k (omega (arith, lt)) (omega (arith, c.requires.some, c.requires.within)) no

pub returns-clause-after : goal.returns-clause-after
returns-clause-after c = λ k from lt. absurd (omega (arith, from, lt))

use Rattle.std.proofs.Common.{◌∙◌, ℕ, List, ap, arith, length, sym}
use Rattle.std.specs.Prelude.{◌==◌}
use Rattle.std.proofs.lemmas.Bool.{eq-eqb}
use Rattle.answer_text.proofs.Records.{blank-none, blank-one, blank-other}
use Rattle.answer_text.proofs.record.is_blank.Goals as goal

pub returns-then-width-gt1 : goal.returns-then-width-gt1
returns-then-width-gt1 c = sym (blank-other c.args.row.now (omega (arith, c.width-width.ensures, c.if-width-gt1.true)))

pub returns-then-width-eq0 : goal.returns-then-width-eq0
returns-then-width-eq0 c = eq-eqb _ _ c.if-width-eq0.true ∙ sym (blank-none c.args.row.now (sym c.width-width.ensures ∙ c.if-width-eq0.true))

pub returns-else-width-eq0 : goal.returns-else-width-eq0
returns-else-width-eq0 c =
    let one = blank-one c.args.row.now (omega (arith, c.width-width.ensures, c.if-width-gt1.false)) (λ none. c.if-width-eq0.false (c.width-width.ensures ∙ none)) in
    c.is_empty.ensures ∙ ap (λ (field : List ℕ). length field == 0) c.field.ensures ∙ sym one

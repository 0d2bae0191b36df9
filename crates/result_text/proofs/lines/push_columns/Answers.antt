use Rattle.std.proofs.Common.{◌≡◌, ◌∙◌, ◌-◌, ◌+◌, ◌++◌, ◌∷◌, List, ℕ, ap, map, sym}
use Rattle.std.specs.List.{concat}
use Rattle.result_text.specs.KeyColumns.{after_first_column, columns_in}
use Rattle.result_text.specs.Lines.{followed}
use Rattle.result_text.proofs.Columns.{columns_in-end, columns_in-more, columns_in-start}
use Rattle.result_text.proofs.LineTexts.{field-end, field-more}
use Rattle.result_text.proofs.lines.push_columns.Goals as goal

pub loop-at-init : goal.loop-at-init
loop-at-init c = ap (λ (cs : List (List ℕ)). c.args.text.now.items ++ concat (map followed cs)) (columns_in-start c.args.columns c.args.key.now)

pub loop-at-preserved : goal.loop-at-preserved
loop-at-preserved c =
    let at = c.loop-at._at in
    let rest = c.loop-at.rest.now in
    let column = c.split_column.result.0.now in
    let more = c.split_column.result.1.now in
    let left : columns_in (c.args.columns - at) rest ≡ column ∷ columns_in (c.args.columns - (at + 1)) more =
    columns_in-more c.args.columns at rest c.loop-at-test.true
    ∙ ap (λ (t : List ℕ). t ∷ columns_in (c.args.columns - (at + 1)) (after_first_column rest)) (sym c.split_column.ensures.first)
    ∙ ap (λ (t : List ℕ). column ∷ columns_in (c.args.columns - (at + 1)) t) (sym c.split_column.ensures.rest) in
    field-more _ _ _ column (columns_in (c.args.columns - at) rest) (columns_in (c.args.columns - (at + 1)) more) left c.in_ok-push_field.ensures c.loop-at.invariant

pub returns : goal.returns
returns c = field-end _ _ _ (columns_in-end c.args.columns c.loop-at._at c.loop-at.rest.now c.loop-at-test.false) c.loop-at.invariant

use Rattle.std.proofs.Common.{◌++◌, ◌∙◌, ap, arith, ℕ, length, map}
use Rattle.std.specs.List.{concat}
use Rattle.std.proofs.lemmas.Result.{on_ok_weaker}
use Rattle.par_model.specs.Table.{values_text}
use Rattle.result_text.specs.KeyColumns.{columns_in}
use Rattle.result_text.specs.Lines.{followed}
use Rattle.result_text.proofs.LineTexts.{put-both}
use Rattle.result_text.proofs.lines.push_line.Goals as goal

pub returns : goal.returns
returns c =
    let plan = c.args.bound.now in
    let old = c.args.text.now.items in
    let columns = c.in_ok-push_columns.ensures ∙ ap (λ (n : ℕ). old ++ concat (map followed (columns_in n c.args.key.now))) c.group_count.ensures.count in
    let fields = put-both old _ _ (columns_in (length plan.groups) c.args.key.now) (values_text plan c.args.state.now) columns c.in_ok-push_values.ensures in
    on_ok_weaker c.end_line.result (λ ended. ended old (columns_in (length plan.groups) c.args.key.now ++ values_text plan c.args.state.now) (omega (arith, c.len-from.ensures, c.args.text.now.ok.0)) fields) c.end_line.ensures

use Rattle.std.proofs.Common.{◌∙◌, List, ap, map}
use Rattle.std.proofs.lemmas.Result.{IfOk-weaker}
use Rattle.std.specs.List.{concat}
use Rattle.line_runs.specs.Entries.{Entry}
use Rattle.line_runs.specs.Order.{entry_at}
use Rattle.line_runs.specs.declared.order.LineRef.{LineRef}
use Rattle.line_runs.proofs.texts.range_text.Goals as goal

pub returns : goal.returns
returns c =
    let runs = c.args.runs.now in
    let found = c.in_ok-found.ensures in
    IfOk-weaker c.text_of.result _ _ (λ text is. record {
      entries = map (entry_at runs) c.in_ok-found.found.lines.items;
      same = found.same;
      sorted = found.sorted;
      is = is ∙ ap (λ (lines : List LineRef). concat (map (λ (e : Entry). e.1) (map (entry_at runs) lines))) c.as_slice.ensures.value;
    }) c.text_of.ensures

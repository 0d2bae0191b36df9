use Rattle.std.proofs.Common.{◌∙◌}
use Rattle.std.proofs.lemmas.Result.{IfOk-weaker}
use Rattle.plan_spec.specs.Query.{text_of}
use Rattle.state_partial.proofs.TextsAfter.{three_texts}
use Rattle.state_partial.proofs.words.with_reading.Goals as goal

pub returns : goal.returns
returns c =
    IfOk-weaker c.with_mark.result _ _ (λ all is.
    is ∙ three_texts c.args.texts.items c.in_ok-parted.parted.items c.in_ok-emptied.emptied.items (text_of c.args.separator) (text_of c.args.nulls) c.args.trim c.in_ok-parted.ensures c.in_ok-emptied.ensures) c.with_mark.ensures

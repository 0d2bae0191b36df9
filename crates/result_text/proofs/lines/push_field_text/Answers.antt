use Rattle.std.proofs.Common.{◌∙◌, ◌++◌, List, ℕ, ap, sym}
use Rattle.std.proofs.lemmas.Result.{on_ok_weaker}
use Rattle.result_text.proofs.LineTexts.{text-bare, text-quoted}
use Rattle.result_text.proofs.lines.push_field_text.Goals as goal

pub returns-then-has_special : goal.returns-then-has_special
returns-then-has_special c =
    let text = text-quoted c.args.field.now (sym c.has_special.ensures ∙ c.if-has_special.true) in
    on_ok_weaker c.push_quoted.result (λ put. put ∙ ap (λ (t : List ℕ). c.args.text.now.items ++ t) (sym text)) c.push_quoted.ensures

pub returns : goal.returns
returns c =
    let text = text-bare c.args.field.now (sym c.has_special.ensures ∙ c.if-has_special.false) in
    c.in_ok-extend_from_slice.ensures.items ∙ ap (λ (t : List ℕ). c.args.text.now.items ++ t) (sym text)

use Rattle.std.proofs.Common.{◌++◌, ◌∷◌, ◌∙◌, [], List, ℕ, ap, rules}
use Rattle.found_rows.specs.Spans.{fields_in}
use Rattle.found_rows.proofs.Fields.{bare}
use Rattle.found_rows.proofs.found.next_field.Goals as goal

pub returns-clause-written : goal.returns-clause-written
returns-clause-written c =
    (bare c.args.text.now c.args.from c.end_from-end.result c.requires.lines c.end_from-end.ensures.first (c.is_quote_at.ensures.other (search rules))).written

pub returns-clause-field : goal.returns-clause-field
returns-clause-field c =
    let is = bare c.args.text.now c.args.from c.end_from-end.result c.requires.lines c.end_from-end.ensures.first (c.is_quote_at.ensures.other (search rules)) in
    c.push.ensures.fields ∙ ap (λ (f : List ℕ). fields_in c.args.text.now c.args.spans.now ++ f ∷ []) is.bytes

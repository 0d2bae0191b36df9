use Rattle.std.proofs.Common.{◌≡◌, ◌<◌, ◌+◌, ◌++◌, ◌∷◌, ◌∙◌, [], List, ℕ, ap, sym, arith, length, rules}
use Rattle.found_rows.specs.Spans.{fields_in}
use Rattle.found_rows.specs.Written.{between, read_as}
use Rattle.found_rows.proofs.Fields.{simple}
use Rattle.found_rows.proofs.found.push_quoted.Goals as goal

pub returns-then-end-quote-clause-field : goal.returns-then-end-quote-clause-field
returns-then-end-quote-clause-field c =
    let text = c.args.text.now in
    let end : c.args.end ≡ c.args.quote + 1 = search rules in
    let within : c.args.quote < length text = omega (arith, end, c.requires.written.high) in
    let is = simple text c.args.from c.args.quote c.requires.quote c.requires.next within in
    c.push.ensures.fields ∙ ap (λ (f : List ℕ). fields_in text c.args.spans.now ++ f ∷ []) (is ∙ ap (λ n. read_as (between c.args.from n text)) (sym end))

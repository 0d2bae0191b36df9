use Rattle.std.proofs.Common.{◌∙◌, None, Some, ap, lit<}
use Rattle.std.proofs.lemmas.Str.Pattern.{split_parts}
use Rattle.state_partial.specs.Words.{place_in, span_by}
use Rattle.state_partial.specs.declared.words.TheConstants.{OPEN_END}
use Rattle.state_partial.proofs.Numbers.{no_dash, none_any}
use Rattle.state_partial.proofs.words.span_of.Goals as goal

pub returns-in-None : goal.returns-in-None
returns-in-None c =
    let none = none_any c.args.bytes.now (split_parts 45 c.args.bytes.now None c.in-None.ensures.cases (lit< tt)) in
    c.span_between-in-None.ensures
    ∙ (ap (λ from. span_by from (Some OPEN_END) c.place_of-in-None-2.result) c.place_of-in-None.ensures
    ∙ (ap (λ size. span_by (place_in c.args.bytes.now) (Some OPEN_END) size) c.place_of-in-None-2.ensures ∙ no_dash c.args.bytes.now c.args.size.now none))

use Rattle.std.proofs.Common.{◌≡◌, ◌∙◌, drop, sym, true}
use Rattle.std.proofs.lemmas.List.{take_rest}
use Rattle.std.specs.Str.{IsUtf8}
use Rattle.state_plan.specs.Words.{says_reading}
use Rattle.state_plan.proofs.Texts.{rest_utf8}
use Rattle.state_plan.proofs.words.push_filter.Goals as goal

pub returns-then-says_reading-clause-no_text : goal.returns-then-says_reading-clause-no_text
returns-then-says_reading-clause-no_text c = λ e utf8.
    let text = c.args.text.now in
    let says : says_reading c.args.text.now ≡ true = sym c.says_reading.ensures ∙ c.if-says_reading.true in
    let rest : IsUtf8 (drop 1 c.args.text.now) = rest_utf8 c.args.text.now says utf8 in
    c.push_word.ensures.no_text e (rw (take_rest text 1) rest)

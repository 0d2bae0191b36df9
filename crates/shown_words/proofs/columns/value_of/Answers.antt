use Rattle.std.proofs.Common.{◌∙◌, ap, sym}
use Rattle.std.specs.Borrow.{Bor}
use Rattle.std.specs.Prelude.{ℕ, List, option_map, string_bytes}
use Rattle.shown_words.specs.Columns.{value_in}
use Rattle.shown_words.proofs.Given.{found-in, found-next, word-more, words-end}
use Rattle.shown_words.proofs.columns.value_of.Goals as goal

pub returns-then-eq : goal.returns-then-eq
returns-then-eq c = found-next c.args.option.now c.args.words.now c.words.at c.index-words-at.result _ c.words-test.true c.words.invariant (cc) c.word_at.ensures

pub returns-in-Some : goal.returns-in-Some
returns-in-Some c = found-in c.args.option.now c.args.words.now c.words.at c.index-words-at.result c.in-Some.value.now c.words-test.true c.words.invariant (cc) (ap (value_in c.args.option.now) (sym (c.as_str-in-words.ensures.value ∙ ap string_bytes c.index-words-at.is)) ∙ sym c.value_in.ensures ∙ ap (option_map (λ (s : Bor (List ℕ)). s.now)) c.in-Some.is)

pub words-preserved : goal.words-preserved
words-preserved c = word-more c.args.option.now c.args.words.now c.words.at c.index-words-at.result c.words-test.true c.words.invariant (cc) (ap (value_in c.args.option.now) (sym (c.as_str-in-words.ensures.value ∙ ap string_bytes c.index-words-at.is)) ∙ sym c.value_in.ensures ∙ ap (option_map (λ (s : Bor (List ℕ)). s.now)) c.in-None.is)

pub returns : goal.returns
returns c = words-end c.args.option.now c.args.words.now c.words.at c.words-test.false c.words.invariant

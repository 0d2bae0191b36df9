use Rattle.std.proofs.Common.{◌≡◌, ◌∙◌, [], length, string_bytes, ap, ap₂, arith, sym}
use Rattle.std.proofs.lemmas.List.{get_or-map, length-map}
use Rattle.answer_text.specs.Words.{texts}
use Rattle.join_query.specs.Words.{asked_in}
use Rattle.join_query.proofs.Asked.{other_first, other_number, three_words}
use Rattle.join_query.proofs.words.read_words.Goals.{then-words-ne3-via-then-words-ne3, then-words-ne3-via-else-words-ne3+then-not-is_join}
use Rattle.join_query.proofs.words.read_words.Goals as goal

pub returns-then-words-ne3-clause-asked : goal.returns-then-words-ne3-clause-asked
returns-then-words-ne3-clause-asked c =
    let words = texts c.args.words.now in
    let long = length-map c.args.words.now string_bytes in
    elim c.then-words-ne3.branch [
      | then-words-ne3-via-then-words-ne3 w ↦ sym (other_number words (λ three. omega (arith, long, three, w.if-words-ne3.true)))
      | then-words-ne3-via-else-words-ne3+then-not-is_join w ↦ sym (other_first words (sym w.is_join.ensures ∙ w.if-not-is_join.true))
    ]

pub returns-clause-asked : goal.returns-clause-asked
returns-clause-asked c =
    let words = c.args.words.now in
    let long : length (texts words) ≡ 3 = length-map words string_bytes ∙ c.if-words-ne3.false in
    let column = get_or-map string_bytes words 1 c.index-words-1.result [] (omega (arith, c.if-words-ne3.false)) ∙ ap string_bytes (sym c.index-words-1.is) ∙ sym c.as_str.ensures.value in
    let workers = get_or-map string_bytes words 2 c.index-words-2.result [] (omega (arith, c.if-words-ne3.false)) ∙ ap string_bytes (sym c.index-words-2.is) ∙ sym c.as_str-2.ensures.value in
    c.asked_in.ensures.asked ∙ sym (three_words (texts words) (sym c.is_join.ensures ∙ c.if-not-is_join.false) long ∙ ap₂ asked_in column workers)

use Rattle.std.proofs.Common.{◌≡◌, append_assoc, arith, length, nat_lt, string_bytes, true}
use Rattle.std.proofs.lemmas.Bool.Decides.{nat_tests}
use Rattle.std.proofs.lemmas.List.{length-map}
use Rattle.answer_text.specs.Words.{texts}
use Rattle.input_hints.proofs.refused.put_place.Goals as goal

pub returns : goal.returns
returns c =
    let words = c.args.words.now in
    let there : nat_lt c.args.at (length (texts words)) ≡ true = grind (arith, nat_tests, c.if-at-words.false, length-map words string_bytes) in
    rw (c.in_ok-push_str-2.ensures.bytes, c.in_ok-put_shown.ensures, c.as_bytes.ensures.value, c.word_at.ensures, there)
    (append_assoc (string_bytes c.args.text.now) _ _)

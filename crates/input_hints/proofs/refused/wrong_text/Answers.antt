use Rattle.std.proofs.Common.{append_assoc}
use Rattle.answer_text.specs.Words.{texts}
use Rattle.input_hints.specs.Refused.{place_text}
use Rattle.input_hints.proofs.refused.wrong_text.Goals as goal

pub returns : goal.returns
returns c =
    rw (c.in_ok-push_str-2.ensures.bytes, c.in_ok-push_str.ensures.bytes, c.in_ok-put_place.ensures, c.new-text.ensures.bytes, c.text.ensures)
    (append_assoc (place_text (texts c.args.words.now) c.args.wrong.at) _ _)

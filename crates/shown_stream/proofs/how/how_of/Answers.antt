use Rattle.std.proofs.Common.{ap, string_bytes}
use Rattle.answer_text.specs.Words.{texts}
use Rattle.shown_words.specs.Asking.{asked_as}
use Rattle.shown_words.specs.Taking.{taken_as}
use Rattle.shown_stream.proofs.Hows.{how_wrong, hows_right}
use Rattle.shown_stream.proofs.how.how_of.Goals as goal

pub returns-in-Ok : goal.returns-in-Ok
returns-in-Ok c =
    hows_right (taken_as c.args.taken.now) (texts c.as_slice.result.now) (asked_as c.in-Ok.asked) c.how_with.result (ap (λ ws. texts ws) c.as_slice.ensures.value) c.in-Ok.ensures c.how_with.ensures

pub returns-in_ok-wrong_text-in-Err : goal.returns-in_ok-wrong_text-in-Err
returns-in_ok-wrong_text-in-Err c =
    how_wrong (taken_as c.args.taken.now) c.in-Err.wrong (string_bytes c.in_ok-wrong_text-in-Err.field-0) c.in-Err.ensures c.in_ok-wrong_text-in-Err.ensures

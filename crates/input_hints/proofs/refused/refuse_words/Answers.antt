use Rattle.std.proofs.Common.{◌≡◌, string_bytes}
use Rattle.answer_text.specs.Words.{texts}
use Rattle.input_hints.specs.Refused.{refused_text}
use Rattle.input_hints.proofs.refused.refuse_words.Goals as goal

pub returns-in-Ok-Some-clause-wrong : goal.returns-in-Ok-Some-clause-wrong
returns-in-Ok-Some-clause-wrong g c =
    let it = c.in-Ok-Some in
    let told : string_bytes it.text ≡ refused_text (texts c.args.words.now) = rw it.field-0-is at it.ensures.text in
    λ status. rw (c.as_str.ensures.value, told) at c.say.ensures

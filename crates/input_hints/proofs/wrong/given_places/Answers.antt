use Rattle.std.proofs.Common.{◌∙◌, ℕ, ap, drop, take}
use Rattle.std.proofs.lemmas.List.{take_rest}
use Rattle.answer_text.specs.Words.{texts}
use Rattle.input_hints.proofs.Words.{places_are, texts_from}
use Rattle.input_hints.proofs.wrong.given_places.Goals as goal

pub returns : goal.returns
returns c =
    let words = c.args.words.now in
    let at = c.decimals_place-at.result in
    let size = c.option_size-size.result in
    let many = rw (take_rest words at) at c.min.ensures in
    rw (take_rest words at) (
    ap (λ (n : ℕ). texts (take n (drop at words))) many
    ∙ texts_from words at size
    ∙ places_are (texts words) at size c.decimals_place-at.ensures.place c.option_size-size.ensures)

use Rattle.std.proofs.Common.{◌∙◌, ◌++◌, List, ℕ, ap, take}
use Rattle.numbered_rows.specs.Numbers.{header_text, width_of}
use Rattle.numbered_rows.specs.declared.front.TheConstants.{FRONT}
use Rattle.numbered_rows.proofs.Lefts.{take-few}
use Rattle.numbered_rows.proofs.header.headed.Goals as goal

pub returns : goal.returns
returns c =
    let front = c.args.front.now in
    let sep = c.args.separator in
    let width = c.in_ok-width.ensures ∙ ap (width_of sep) (c.counted.ensures ∙ take-few FRONT front) in
    c.in_ok-extend_from_slice.ensures.items ∙ ap (λ (t : List ℕ). t ++ c.without_mark.result.now) (c.in_ok-text.ensures ∙ ap (header_text sep) width)
    ∙ ap (λ (t : List ℕ). header_text sep (width_of sep (take FRONT front)) ++ t) c.without_mark.ensures.text

use Rattle.std.proofs.Common.{◌∙◌, ℕ, List, ap, length, take}
use Rattle.std.proofs.lemmas.Bool.Decides.{same_from_decides}
use Rattle.std.proofs.lemmas.List.{take_min}
use Rattle.std.proofs.lemmas.Slice.Eq.{bytes_eq-Decides}
use Rattle.std.specs.Str.{str_eq_ignore_ascii_case}
use Rattle.input_hints.proofs.kind.begins_in_any_case.Goals as goal

pub returns : goal.returns
returns c =
    let bytes = c.args.bytes.now in
    let front = c.args.front.now in
    same_from_decides _ (str_eq_ignore_ascii_case (take c.min-count.result bytes) front) c.eq_ignore_ascii_case.ensures.test (bytes_eq-Decides _ _)
    ∙ ap (λ (l : List ℕ). str_eq_ignore_ascii_case l front) (ap (λ (n : ℕ). take n bytes) c.min-count.ensures ∙ take_min (length front) bytes)

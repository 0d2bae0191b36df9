use Rattle.std.proofs.Common.{rules, ◌++◌, ◌∙◌, ℕ, ℤ, FitsSigned, ap, sym}
use Rattle.std.specs.Int.{w128}
use Rattle.std.proofs.lemmas.Int.{to_z-of_z}
use Rattle.state_file.specs.Number.{folded, number_bytes}
use Rattle.state_file.proofs.Folding.{folded_fits, folded_same}
use Rattle.state_file.proofs.number.read_signed.Goals as goal

pub returns-in-Some-clause-read : goal.returns-in-Some-clause-read
returns-in-Some-clause-read c =
    let z = c.unfolded.result in
    let fits : FitsSigned w128 z = search rules in
    c.in-Some.ensures.read ∙ ap (λ (k : ℕ). number_bytes k ++ c.in-Some.rest.now) (sym c.unfolded.ensures)
    ∙ ap (λ (y : ℤ). number_bytes (folded y) ++ c.in-Some.rest.now) (sym (to_z-of_z w128 z fits))

pub returns-in-Some-clause-written : goal.returns-in-Some-clause-written
returns-in-Some-clause-written c =
    let z = c.unfolded.result in
    let whole : FitsSigned w128 z = search rules in
    λ n rest fits e.
    let h = c.in-Some.ensures.written (folded n) rest (folded_fits n fits) e in
    (to_z-of_z w128 z whole ∙ folded_same z n (c.unfolded.ensures ∙ h.0), h.1)

pub returns-in-None-clause-written : goal.returns-in-None-clause-written
returns-in-None-clause-written c = λ n rest fits e. c.in-None.ensures.written (folded n) rest (folded_fits n fits) e

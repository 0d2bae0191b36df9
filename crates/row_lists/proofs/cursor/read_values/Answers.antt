use Rattle.std.proofs.Common.{◌<◌, ◌+◌, ◌++◌, ◌∙◌, ◌∷◌, [], ℤ, List, Option, None, FitsSigned, ap, arith, drop, get_or, length, refl, rules, subst, sym, to_z, w64}
use Rattle.std.proofs.lemmas.Int.{to_z-of_z}
use Rattle.std.proofs.lemmas.List.{drop_all, take_all, take_more, take_more_set}
use Rattle.row_lists.specs.Carried.{last_of, values_bytes}
use Rattle.row_lists.proofs.Reading.{each_value, known_fits, next_bytes}
use Rattle.row_lists.proofs.cursor.read_values.Goals as goal

pub loop-at-init : goal.loop-at-init
loop-at-init c = λ written more h len e. (refl, e)

pub loop-at-preserved : goal.loop-at-preserved
loop-at-preserved c =
    let at = c.loop-at.at in
    let last = to_z w64 c.loop-at.last-bits in
    let known = c.read_value-value.new.last in
    let last_fits : FitsSigned w64 last = search rules in λ written more h len e.
    let found = c.loop-at.invariant written more h len e in
    let lt : at < length written = omega (arith, len, c.loop-at-test.true) in
    let value = get_or written at None in
    let rest = values_bytes (last_of last value) (drop (at + 1) written) ++ more in
    let read = c.read_value-value.ensures value rest (each_value written at h lt) (found.1 ∙ next_bytes last written at more lt) in
    let fits : FitsSigned w64 known = subst (FitsSigned w64) (sym read.2) (known_fits last value last_fits (each_value written at h lt)) in (
      take_more_set c.loop-at.values at c.read_value-value.result.0 (omega (arith, c.loop-at-test.true)) ∙ (λ i. found.0 i ++ read.0 i ∷ []) ∙ sym (take_more written at None lt),
      read.1 ∙ ap (λ (last : ℤ). values_bytes last (drop (at + 1) written) ++ more) (sym (to_z-of_z w64 known fits ∙ read.2)),
    )

pub returns-clause-written : goal.returns-clause-written
unfolding values_bytes
returns-clause-written c = λ written more h len e.
    let at = c.loop-at.at in
    let last = to_z w64 c.loop-at.last-bits in
    let found = c.loop-at.invariant written more h len e in (
      sym (take_all at c.loop-at.values (omega (arith, c.loop-at-test.false))) ∙ found.0 ∙ take_all at written (omega (arith, len, c.loop-at-test.false)),
      found.1 ∙ ap (λ (vs : List (Option ℤ)). values_bytes last vs ++ more) (drop_all at written (omega (arith, len, c.loop-at-test.false))),
    )

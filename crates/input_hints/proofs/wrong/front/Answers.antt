use Rattle.std.proofs.Common.{◌≡◌, ◌<◌, ◌≤◌, ℕ, true, arith, get_or, length, slice_index, subst, sym}
use Rattle.std.proofs.lemmas.Bool.{eqb-true}
use Rattle.std.proofs.lemmas.List.Sums.{passes_at_first}
use Rattle.std.specs.List.{position_or_len}
use Rattle.input_hints.specs.Wrong.{is_equals}
use Rattle.input_hints.proofs.wrong.front.Goals as goal

pub range-requires-clause-end_boundary : goal.range-requires-clause-end_boundary
range-requires-clause-end_boundary c =
    let word = c.args.word.now in
    let at = c.equals_place.result in
    let place : at ≡ position_or_len is_equals word = rw c.as_bytes.ensures.value at c.equals_place.ensures.place in
    let within : at ≤ length word = rw c.as_bytes.ensures.value at c.equals_place.ensures.within in (
      within,
      λ lt big.
          let hit = passes_at_first is_equals word 0 (subst (λ (k : ℕ). k < length word) place lt) in
          let same : is_equals (get_or word at 0) ≡ true = subst (λ (k : ℕ). is_equals (get_or word k 0) ≡ true) (sym place) hit in
          let equals : slice_index word at ≡ 61 = eqb-true (slice_index word at) 61 same in
          absurd (omega (arith, big, equals)),
    )

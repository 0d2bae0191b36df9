-- A filter's text around its first relation.
use Rattle.std.proofs.Common.{◌≡◌, ◌<◌, ◌≤◌, ◌-◌, ℕ, Bool, List, true, false, length, take, drop, refl, arith}
use Rattle.std.specs.Prelude.{◌==◌}
use Rattle.std.specs.List.{position_or_len, slice_index, slice_range}
use Rattle.std.proofs.lemmas.Bool.Decides.{nat_tests}
use Rattle.std.proofs.lemmas.List.{take_rest}
use Rattle.std.proofs.lemmas.List.Sums.{passes_at_first}
use Rattle.plan_spec.specs.Grammar.{Places, filter_in, filter_over, is_relation_byte}

small : (byte : ℕ) → is_relation_byte byte ≡ true → byte < 128
small byte is = grind (arith, nat_tests)

-- it begins a character, or is the end
pub is_boundary : (text : List ℕ) (at : ℕ) → at ≡ position_or_len is_relation_byte text → at ≤ length text
    → (at ≤ length text) × (at < length text → 128 ≤ slice_index text at → 192 ≤ slice_index text at)
is_boundary text at is within = (within, λ lt high. absurd (omega (arith, high, small (slice_index text at) (rw (← is) at (passes_at_first is_relation_byte text 0 (rw is at lt))))))

-- what comes before it is a name, and with what comes after it a filter
pub filter_at : (texts : Bool) (places : Places) (text bytes name : List ℕ) (at : ℕ) → bytes ≡ text → name ≡ slice_range text 0 at → at ≡ position_or_len is_relation_byte bytes → (at ≡ 0 → ⊥)
    → filter_in texts places text ≡ filter_over texts places name (take (length bytes - at) (drop at bytes))
filter_at texts places text bytes name at same front is some =
    let here : at ≡ position_or_len is_relation_byte text = rw same at is in
    let no : (at == 0) ≡ false = grind (arith, nat_tests) in
    let all : at - 0 ≡ at = omega arith in
    rw (front, same, take_rest text at, all, ← here, no) refl

-- The table of what steps make of each byte, entry by entry.
use Rattle.std.proofs.Common.{◌≡◌, ℕ, ◌+◌, ◌*◌, ◌/◌, ◌%◌, ◌-◌, ◌<◌, ◌≤◌, List, get_or, length, length-set, set, ap, sym, ◌∙◌, arith, subst, ⊎_elim}
use Rattle.std.proofs.lemmas.Bool.{cases_lt}
use Rattle.std.proofs.lemmas.List.{get_or-set_other, get_or-set_same}
use Rattle.std.specs.Int.Bits.{xor_zero_r}
use Rattle.state_file.specs.Checksum.{shifted_by, taken_in}
use Rattle.state_file.specs.Slices.{AreSlicesTo}
use Rattle.state_file.proofs.Linear.{steps_after}

pub none_yet : (slices : List ℕ) → length slices ≡ 2048 → AreSlicesTo 0 slices
none_yet slices long = record { long = long; are = λ at less. absurd (omega arith) }

-- a byte of zeros is eight steps
pub zeros_in : (register : ℕ) → taken_in register 0 ≡ shifted_by 8 register
unfolding taken_in
zeros_in register = ap (shifted_by 8) (xor_zero_r register)

pub first_entry : (at : ℕ) → at < 256 → taken_in at 0 ≡ shifted_by (8 * (at / 256 + 1)) (at % 256)
first_entry at few =
    let none : 8 ≡ 8 * (at / 256 + 1) = omega arith in
    let same : at ≡ at % 256 = omega arith in
    zeros_in at ∙ ap (λ (k : ℕ). shifted_by k at) none ∙ ap (shifted_by (8 * (at / 256 + 1))) same

pub later_entry : (at : ℕ) (slices : List ℕ) (before : ℕ) → 256 ≤ at → AreSlicesTo at slices → before ≡ get_or slices (at - 256) 0 → taken_in before 0 ≡ shifted_by (8 * (at / 256 + 1)) (at % 256)
later_entry at slices before many are e =
    let less : at - 256 < at = omega arith in
    let same : (at - 256) % 256 ≡ at % 256 = omega arith in
    let steps : 8 + 8 * ((at - 256) / 256 + 1) ≡ 8 * (at / 256 + 1) = omega arith in
    zeros_in before ∙ ap (shifted_by 8) (e ∙ are.are (at - 256) less) ∙ sym (steps_after 8 (8 * ((at - 256) / 256 + 1)) ((at - 256) % 256))
    ∙ ap (λ (k : ℕ). shifted_by k ((at - 256) % 256)) steps ∙ ap (shifted_by (8 * (at / 256 + 1))) same

pub one_more : (at : ℕ) (slices : List ℕ) (x : ℕ) → at < 2048 → AreSlicesTo at slices → x ≡ shifted_by (8 * (at / 256 + 1)) (at % 256) → AreSlicesTo (at + 1) (set slices at x)
one_more at slices x few are is = record {
  long = length-set slices at x ∙ are.long;
  are = λ n less. ⊎_elim
      (λ (h : n < at). get_or-set_other slices at n x 0 (λ (e : n ≡ at). omega arith) ∙ are.are n h)
      (λ (h : at ≤ n). let same : at ≡ n = omega arith in here n same)
      (cases_lt n at);
}
  where
    room : at < length slices
    room = let long = are.long in omega arith

    here : (n : ℕ) → at ≡ n → get_or (set slices at x) n 0 ≡ shifted_by (8 * (n / 256 + 1)) (n % 256)
    here n same = subst (λ (m : ℕ). get_or (set slices at x) m 0 ≡ shifted_by (8 * (m / 256 + 1)) (m % 256)) same (get_or-set_same slices at x 0 room ∙ is)

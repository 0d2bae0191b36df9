-- Eight bits at once: what the table makes of a byte is what eight steps of a bit make of it.
use Rattle.std.proofs.Common.{◌≡◌, ℕ, zero, suc, ◌+◌, ◌*◌, ◌/◌, ◌%◌, ◌<◌, ◌^◌, Bool, true, false, ◌&&◌, ◌==◌, List, [], ◌∷◌, length, get_or, refl, ap, sym, ◌∙◌, arith, if◌then◌else◌, zero-add, bit_xor}
use Rattle.std.proofs.lemmas.Bool.{eqb-true}
use Rattle.std.proofs.Math.Nat.{div-lt_iff_lt-mul, mod-lt, pow-suc}
use Rattle.std.proofs.lemmas.Nat.{div-add-mod', pow_pos, xor_shr, xor_mod}
use Rattle.std.specs.Int.Bits.{xor_assoc, xor_zero_r}
use Rattle.state_file.specs.Checksum.{divided, polynomial, shifted, shifted_by, taken_in}
use Rattle.state_file.specs.declared.checksum.TheConstants.{TABLE}

divided-xor : (bit h q : ℕ) → divided bit (bit_xor h q) ≡ bit_xor h (divided bit q)
divided-xor bit h q = elim (bit == 1) as (λ (b : Bool). (if b then bit_xor (bit_xor h q) polynomial else bit_xor h q) ≡ bit_xor h (if b then bit_xor q polynomial else q)) [
  | true ↦ xor_assoc h q polynomial
  | false ↦ refl
]

-- a step takes its bit from the lowest place alone
step : (h t s : ℕ) → t < 2 → shifted (bit_xor (h * 2 + t) s) ≡ bit_xor h (shifted (bit_xor t s))
step h t s few =
    let high : (h * 2 + t) / 2 ≡ h = omega arith in
    let low : (h * 2 + t) % 2 ≡ t % 2 = omega arith in
    let none : t / 2 ≡ 0 = omega arith in
    let left : bit_xor (h * 2 + t) s / 2 ≡ bit_xor h (s / 2) = xor_shr (h * 2 + t) s 1 ∙ ap (λ (n : ℕ). bit_xor n (s / 2)) high in
    let bit : bit_xor (h * 2 + t) s % 2 ≡ bit_xor t s % 2 = xor_mod (h * 2 + t) s 1 ∙ ap (λ (n : ℕ). bit_xor n (s % 2)) low ∙ sym (xor_mod t s 1) in
    let half : bit_xor t s / 2 ≡ s / 2 = xor_shr t s 1 ∙ ap (λ (n : ℕ). bit_xor n (s / 2)) none in
    ap (λ (n : ℕ). divided n (bit_xor (h * 2 + t) s / 2)) bit ∙ ap (divided (bit_xor t s % 2)) left ∙ divided-xor (bit_xor t s % 2) h (s / 2)
    ∙ ap (λ (n : ℕ). bit_xor h (divided (bit_xor t s % 2) n)) (sym half)

-- the bits above the first k only move down
pub split : (k h l : ℕ) → l < 2 ^ k → shifted_by k (h * 2 ^ k + l) ≡ bit_xor h (shifted_by k l)
unfolding shifted_by
split zero h l few = let whole : h * 1 + l ≡ h = omega arith in let none : 0 ≡ l = omega arith in whole ∙ sym (xor_zero_r h) ∙ ap (bit_xor h) none
split (suc k) h l few =
    let t = l / 2 ^ k in
    let r = l % 2 ^ k in
    let twice : 2 ^ suc k ≡ 2 ^ k * 2 = pow-suc 2 k in
    let small : r < 2 ^ k = rest k l in
    let bit : t < 2 = top k l (omega arith) in
    ap (λ (n : ℕ). shifted (shifted_by k n)) (parts k h l) ∙ ap shifted (split k (h * 2 + t) r small) ∙ step h t (shifted_by k r) bit
    ∙ ap (λ (n : ℕ). bit_xor h (shifted n)) (sym (split k t r small))
    ∙ ap (λ (n : ℕ). bit_xor h (shifted (shifted_by k n))) (sym (whole k l))
  where
    rest : (k l : ℕ) → l % 2 ^ k < 2 ^ k
    rest k l = mod-lt l (pow_pos k)

    top : (k l : ℕ) → l < 2 ^ k * 2 → l / 2 ^ k < 2
    top k l h = (div-lt_iff_lt-mul (pow_pos k)).1 (omega arith)

    whole : (k l : ℕ) → l ≡ l / 2 ^ k * 2 ^ k + l % 2 ^ k
    whole k l = sym (div-add-mod' l (2 ^ k))

    parts : (k h l : ℕ) → h * 2 ^ suc k + l ≡ (h * 2 + l / 2 ^ k) * 2 ^ k + l % 2 ^ k
    parts k h l = ap (λ (n : ℕ). h * n + l) (pow-suc 2 k) ∙ omega (arith, div-add-mod' l (2 ^ k))

-- ---- the table

are_entries : ℕ → List ℕ → Bool
are_entries n [] = true
are_entries n (x ∷ xs) = (shifted_by 8 n == x) && are_entries (suc n) xs

both : (a b : Bool) → (a && b) ≡ true → (a ≡ true) × (b ≡ true)
both true b e = (refl, e)
both false b e = cc

entry_in : (n : ℕ) (xs : List ℕ) (k : ℕ) → are_entries n xs ≡ true → k < length xs → get_or xs k 0 ≡ shifted_by 8 (n + k)
unfolding are_entries
entry_in n [] k e h = absurd (omega arith)
entry_in n (x ∷ xs) zero e h =
    let z : n ≡ n + 0 = omega arith in sym (eqb-true (shifted_by 8 n) x (both (shifted_by 8 n == x) (are_entries (suc n) xs) e).0) ∙ ap (shifted_by 8) z
entry_in n (x ∷ xs) (suc k) e h =
    let z : suc n + k ≡ n + suc k = omega arith in entry_in (suc n) xs k (both (shifted_by 8 n == x) (are_entries (suc n) xs) e).1 (omega arith) ∙ ap (shifted_by 8) z

entry_at : (k : ℕ) → k < 256 → get_or TABLE k 0 ≡ shifted_by 8 k
unfolding are_entries shifted_by
entry_at k h = entry_in 0 TABLE k refl h ∙ ap (shifted_by 8) (zero-add k)

-- a byte at once
pub looked_up : (register byte same : ℕ) → byte < 2 ^ 8 → same ≡ byte → bit_xor (register / 256) (get_or TABLE (bit_xor register same % 256) 0) ≡ taken_in register byte
unfolding taken_in
looked_up register byte same fits e =
    let x = bit_xor register byte in
    let none : byte / 256 ≡ 0 = omega arith in
    let high : x / 256 ≡ register / 256 = xor_shr register byte 8 ∙ ap (bit_xor (register / 256)) none ∙ xor_zero_r (register / 256) in
    let low : x % 256 < 256 = omega arith in
    let whole : x ≡ x / 256 * 2 ^ 8 + x % 256 = omega arith in
    ap (λ (n : ℕ). bit_xor (register / 256) (get_or TABLE (bit_xor register n % 256) 0)) e
    ∙ ap (bit_xor (register / 256)) (entry_at (x % 256) low)
    ∙ ap (λ (n : ℕ). bit_xor n (shifted_by 8 (x % 256))) (sym high)
    ∙ sym (split 8 (x / 256) (x % 256) low)
    ∙ ap (shifted_by 8) (sym whole)

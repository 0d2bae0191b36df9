-- A number of which one bit is set is a power of two.
use Rattle.std.proofs.Common.{◌≡◌, ◌⊎◌, inl, inr, ℕ, zero, suc, ◌+◌, ◌*◌, ◌/◌, ◌%◌, ◌^◌, ◌<◌, ◌≤◌, arith, pow_mono, pow-suc}
use Rattle.std.proofs.lemmas.Bool.{cases_eq, cases_lt}
use Rattle.std.proofs.lemmas.Nat.{ones_le_self, zero_from_ones}
use Rattle.std.specs.Prelude.{count_ones}
use lib.Count.{ones_step}

-- where its half is one, or it is odd
from-half : (n : ℕ) → count_ones n ≡ 1 → (count_ones (n / 2) ≡ 1 → (e : ℕ) × (n / 2 ≡ 2 ^ e)) → (n % 2 ≡ 0) ⊎ (n % 2 ≡ 0 → ⊥) → (e : ℕ) × (n ≡ 2 ^ e)
from-half n one half (inl even) =
    let s = ones_step n in
    let h = half (omega (arith, s, even, one)) in
    (suc h.0, omega (arith, h.1, even, pow-suc 2 h.0))
from-half n one half (inr odd) =
    let s = ones_step n in
    let none = zero_from_ones (n / 2) (omega (arith, s, odd, one)) in
    (0, omega (arith, none, s, odd, one))

one-bit : (d n : ℕ) → n ≤ d → count_ones n ≡ 1 → (e : ℕ) × (n ≡ 2 ^ e)
one-bit zero n few one = absurd (omega (arith, few, one, ones_le_self n))
one-bit (suc d) n few one = from-half n one (λ h. one-bit d (n / 2) (omega (arith, few, one)) h) (cases_eq (n % 2) 0)

over-20 : (e : ℕ) → 20 < e → 1048576 < 2 ^ e
over-20 e large = omega (arith, pow_mono {i = 21} {j = e} (omega (arith, large)))

low-exponent : (e n : ℕ) → n ≡ 2 ^ e → n ≤ 1048576 → (20 < e) ⊎ (e ≤ 20) → e ≤ 20
low-exponent e n is few (inr low) = low
low-exponent e n is few (inl large) = absurd (omega (arith, over-20 e large, is, few))

-- and where it is at most 2^20, so is the exponent at most 20
pub power-to-20 : (n : ℕ) → count_ones n ≡ 1 → n ≤ 1048576 → (e : ℕ) × (n ≡ 2 ^ e) × (e ≤ 20)
power-to-20 n one few =
    let p = one-bit n n (omega arith) one in
    (p.0, p.1, low-exponent p.0 n p.1 few (cases_lt 20 p.0))

-- What digits write after a number, one digit at a time.
use Rattle.std.proofs.Common.{IfSome, None, Option, Some, ◌≡◌, ◌∙◌, ◌<◌, ◌≤◌, ◌+◌, ◌*◌, ◌^◌, ◌++◌, ◌∷◌, [], ℕ, zero, suc, List, length, take, get_or, refl, ap, arith}
use Rattle.std.proofs.Math.Nat.{pow-le-pow_right}
use Rattle.std.proofs.lemmas.List.{take_more}
use Rattle.std.proofs.lemmas.Nat.{pow-add}
use Rattle.std.specs.Char.{digit_value}
use Rattle.std.specs.Prelude.{replicate}
use Rattle.std.specs.Str.Parse.{digits_value_after}

-- the digits of two lists, one after the other
pub after-append : (n : ℕ) (xs ys : List ℕ) → digits_value_after 10 n (xs ++ ys) ≡ digits_value_after 10 (digits_value_after 10 n xs) ys
after-append n [] ys = refl
after-append n (x ∷ xs) ys = after-append (n * 10 + digit_value x) xs ys

-- one digit more
pub after-more : (n : ℕ) (ds : List ℕ) (i : ℕ) → i < length ds → digits_value_after 10 n (take (i + 1) ds) ≡ digits_value_after 10 n (take i ds) * 10 + digit_value (get_or ds i 0)
after-more n ds i lt = ap (digits_value_after 10 n) (take_more ds i 0 lt) ∙ after-append n (take i ds) (get_or ds i 0 ∷ [])

-- the number that comes first is no greater
pub after-ge : (n : ℕ) (ds : List ℕ) → n ≤ digits_value_after 10 n ds
after-ge n [] = omega arith
after-ge n (d ∷ ds) = omega (arith, after-ge (n * 10 + digit_value d) ds)

-- nor is what the first digits write
pub after-take : (n : ℕ) (ds : List ℕ) (i : ℕ) → digits_value_after 10 n (take i ds) ≤ digits_value_after 10 n ds
after-take n [] zero = omega arith
after-take n [] (suc i) = omega arith
after-take n (d ∷ ds) zero = after-ge n (d ∷ ds)
after-take n (d ∷ ds) (suc i) = after-take (n * 10 + digit_value d) ds i

zeros-more : (n k : ℕ) → digits_value_after 10 n (replicate (suc k) 48) ≡ digits_value_after 10 n (replicate k 48) * 10
zeros-more n zero = omega arith
zeros-more n (suc k) = zeros-more (n * 10 + 0) k

-- one zero more
pub after-zero : (n k : ℕ) → digits_value_after 10 n (replicate (k + 1) 48) ≡ digits_value_after 10 n (replicate k 48) * 10
after-zero n k =
    let next : k + 1 ≡ suc k = omega arith in
    ap (λ m. digits_value_after 10 n (replicate m 48)) next ∙ zeros-more n k

-- fewer zeros write no more
pub zeros-up : (n j k : ℕ) → j ≤ k → digits_value_after 10 n (replicate j 48) ≤ digits_value_after 10 n (replicate k 48)
zeros-up n zero k le = after-ge n (replicate k 48)
zeros-up n (suc j) zero le = absurd (omega (arith, le))
zeros-up n (suc j) (suc k) le = zeros-up (n * 10 + 0) j k (omega (arith, le))

-- one digit more, within a power of ten
pub within-more : (k i value unit : ℕ) → value < 10 ^ (k + i) → unit ≤ 9 → value * 10 + unit < 10 ^ (k + (i + 1))
within-more k i value unit lt le =
    let same : k + (i + 1) ≡ (k + i) + 1 = omega arith in
    let power : 10 ^ (k + (i + 1)) ≡ 10 ^ (k + i) * 10 = ap (λ m. 10 ^ m) same ∙ pow-add 10 (k + i) 1 in
    omega (arith, power, lt, le)

pub pow-up : (i j : ℕ) → i ≤ j → 10 ^ i ≤ 10 ^ j
pow-up i j le = pow-le-pow_right {n = 10} (omega arith) {i = i} {j = j} le

pub pow-some : (k : ℕ) → 0 < 10 ^ k
pow-some k = omega (arith, pow-up 0 k (omega arith))

-- a number below a power of ten is below a larger one
pub below : (k : ℕ) (o : Option ℕ) → k ≤ 18 → IfSome o (λ size. size < 10 ^ k) → IfSome o (λ size. size < 10 ^ 18)
below k None le h = h
below k (Some size) le h = omega (arith, pow-up k 18 le, h)

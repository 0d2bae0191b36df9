-- The sum, the least and the greatest of some numbers, one number at a time.
use Rattle.std.proofs.Common.{◌≡◌, ◌<◌, ◌+◌, ◌*◌, ◌^◌, ◌∙◌, ◌&&◌, ◌++◌, ◌∷◌, [], ◌+ℤ◌, ◌<ℤ◌, ◌≤ℤ◌, ℕ, ℤ, pos, negsuc, neg_ℤ, Bool, true, false, if◌then◌else◌, List, Option, Some, None, FitsSigned, of_z, to_z, w64, fold, refl, ap, sym, subst, arith}
use Rattle.std.proofs.lemmas.Int.{ints, to_z-of_z}
use Rattle.std.specs.Int.{int_max, int_min, w128}
use Rattle.std.specs.Option.{option_map_or}
use Rattle.std.specs.Str.Parse.{without_leading_sign}
use Rattle.par_model.specs.Aggregate.{total}
use Rattle.par_model.specs.Number.{decimal_of, fits_64_bits, is_numeral, number_of, units_of, without_spaces}

-- the extreme of some numbers, if there are any
abbrev pub extreme : (ℤ → ℤ → ℤ) → List ℤ → Option ℤ
extreme f [] = None
extreme f (n ∷ numbers) = Some (fold f n numbers)

abbrev pub least_so_far : List ℤ → Option ℤ
least_so_far = extreme int_min

abbrev pub greatest_so_far : List ℤ → Option ℤ
greatest_so_far = extreme int_max

fold_push : (f : ℤ → ℤ → ℤ) (a : ℤ) (numbers : List ℤ) (n : ℤ) → fold f a (numbers ++ n ∷ []) ≡ f (fold f a numbers) n
fold_push f a [] n = refl
fold_push f a (m ∷ numbers) n = fold_push f (f a m) numbers n

-- one number more
pub extreme-push : (f : ℤ → ℤ → ℤ) (numbers : List ℤ) (n : ℤ) → extreme f (numbers ++ n ∷ []) ≡ Some (option_map_or (λ so_far. f so_far n) (extreme f numbers) n)
extreme-push f [] n = refl
extreme-push f (m ∷ numbers) n = ap Some (fold_push f m numbers n)

pub total-push : (numbers : List ℤ) (n : ℤ) → total (numbers ++ n ∷ []) ≡ total numbers +ℤ n
total-push numbers n = fold_push (λ sum m. sum +ℤ m) (pos 0) numbers n

-- ---- in machine numbers

-- a number of a field is one of 64 bits
pub record Is64 (n : ℤ) : Type 0 where
  pub low : neg_ℤ (pos (2 ^ 63)) ≤ℤ n
  pub high : n <ℤ pos (2 ^ 63)

read_within : (a b : Bool) (z n : ℤ) → (if a && b then Some z else None) ≡ Some n → (b ≡ true) × (z ≡ n)
read_within true true z n e = (refl, cc)
read_within true false z n e = cc
read_within false b z n e = cc

fits-is : (z : ℤ) → fits_64_bits z ≡ true → Is64 z
fits-is z e = record { low = grind (arith, ints); high = grind (arith, ints) }

number_is : (places : ℕ) (field : List ℕ) (n : ℤ) → decimal_of places field ≡ Some n → Is64 n
unfolding number_of
number_is places field n e =
    let text = without_spaces field in
    let both = read_within (is_numeral places (without_leading_sign text)) (fits_64_bits (units_of places text)) (units_of places text) n e in
    subst Is64 both.1 (fits-is (units_of places text) both.0)

pub chosen_is : (b : Bool) (places : ℕ) (field : List ℕ) (n : ℤ) → Some n ≡ (if b then decimal_of places field else None) → Is64 n
chosen_is true places field n e = number_is places field n (sym e)
chosen_is false places field n e = cc

fits64 : (n : ℤ) → Is64 n → FitsSigned w64 n
fits64 (pos k) is = record { sfits = omega (arith, ints, is.high) }
fits64 (negsuc k) is = record { sfits = omega (arith, ints, is.low) }

-- a number so far within 128 bits
pub fits128 : (n : ℤ) → neg_ℤ (pos (2 ^ 127)) ≤ℤ n → n <ℤ pos (2 ^ 127) → FitsSigned w128 n
fits128 (pos k) low high = record { sfits = omega (arith, ints, high) }
fits128 (negsuc k) low high = record { sfits = omega (arith, ints, low) }

-- the sum of the first rows and one number more, where each is of 64 bits
pub sum_with : (i : ℕ) (sum n wide sum' : ℤ) → i + 1 < 2 ^ 64 → Is64 n → neg_ℤ (pos (2 ^ 63 * i)) ≤ℤ sum → sum ≤ℤ pos (2 ^ 63 * i)
    → wide ≡ to_z w64 (of_z w64 n) → sum' ≡ to_z w128 (of_z w128 (sum +ℤ to_z w128 (of_z w128 wide)))
    → (sum' ≡ sum +ℤ n) × (neg_ℤ (pos (2 ^ 63 * (i + 1))) ≤ℤ sum') × (sum' ≤ℤ pos (2 ^ 63 * (i + 1)))
sum_with i sum n wide sum' few is low high widened added =
    let low64 = is.low in
    let high64 = is.high in
    let same : wide ≡ n = widened ∙ to_z-of_z w64 n (fits64 n is) in
    let same128 : to_z w128 (of_z w128 wide) ≡ n = ap (λ z. to_z w128 (of_z w128 z)) same ∙ to_z-of_z w128 n (fits128 n (omega (arith, ints)) (omega (arith, ints))) in
    let both : sum' ≡ sum +ℤ n = added ∙ ap (λ z. to_z w128 (of_z w128 (sum +ℤ z))) same128 ∙ to_z-of_z w128 (sum +ℤ n) (fits128 (sum +ℤ n) (omega (arith, ints)) (omega (arith, ints))) in
    (both, omega (arith, ints), omega (arith, ints))

-- the extreme so far, and one number more
pub extreme_next : (f : ℤ → ℤ → ℤ) (numbers : List ℤ) (n r : ℤ) (before after : Option ℤ) → Is64 n → FitsSigned w64 r → before ≡ extreme f numbers
    → r ≡ option_map_or (λ so_far. f so_far (to_z w64 (of_z w64 n))) before (to_z w64 (of_z w64 n)) → after ≡ Some (to_z w64 (of_z w64 r)) → after ≡ extreme f (numbers ++ n ∷ [])
extreme_next f numbers n r before after is fits sofar made put =
    let same : to_z w64 (of_z w64 n) ≡ n = to_z-of_z w64 n (fits64 n is) in
    put ∙ ap Some (to_z-of_z w64 r fits ∙ made ∙ ap (λ z. option_map_or (λ so_far. f so_far z) before z) same ∙ ap (λ o. option_map_or (λ so_far. f so_far n) o n) sofar)
    ∙ sym (extreme-push f numbers n)

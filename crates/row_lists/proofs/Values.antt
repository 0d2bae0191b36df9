-- Values as bytes, and read back.
use Rattle.std.proofs.Common.{◌≡◌, ◌++◌, ◌∙◌, ◌∷◌, [], ℕ, ℤ, suc, List, Bool, true, false, Option, Some, None, FitsSigned, ap, append_assoc, if◌then◌else◌, length, refl, sym, w64}
use Rattle.std.specs.Int.{cast_signed, cast_unsigned}
use Rattle.std.specs.List.{AllByRecursion}
use Rattle.std.specs.Ordering.{int_eq}
use Rattle.std.proofs.Math.Facts.{Fits-of_z}
use Rattle.std.proofs.lemmas.Bool.Decides.{Decides-int_eq}
use Rattle.std.proofs.lemmas.Int.{to_z-of_z}
use Rattle.std.proofs.lemmas.Nat.{from_le_bytes-to_le_bytes_8}
use Rattle.row_lists.specs.Carried.{IsValue, after_values, last_of, number_bytes, number_in, value_bytes, values_bytes, values_in}
use Rattle.row_lists.specs.declared.list.TheConstants.{NEW, SAME}

pub number_back : (n : ℤ) (more : List ℕ) → FitsSigned w64 n → number_in (number_bytes n ++ more) ≡ n
number_back n more h =
    ap (cast_signed w64) (from_le_bytes-to_le_bytes_8 (cast_unsigned w64 n) (Fits-of_z h).fits) ∙ to_z-of_z w64 n h

-- ---- one value

pub value_back : (count : ℕ) (last : ℤ) (value : Option ℤ) (more : List ℕ) → IsValue value → values_in (suc count) last (value_bytes last value ++ more) ≡ value ∷ values_in count (last_of last value) more
unfolding values_in
value_back count last None more h = refl
value_back count last (Some n) more h = by (int_eq n last) (Decides-int_eq n last).0
  where
    by : (b : Bool) → (b ≡ true → n ≡ last) → values_in (suc count) last ((if b then SAME ∷ [] else NEW ∷ number_bytes n) ++ more) ≡ Some n ∷ values_in count n more
    by true e = ap (λ (k : ℤ). Some k ∷ values_in count k more) (sym (e refl))
    by false e = ap (λ (k : ℤ). Some k ∷ values_in count k more) (number_back n more h)

pub value_after : (count : ℕ) (last : ℤ) (value : Option ℤ) (more : List ℕ) → after_values (suc count) (value_bytes last value ++ more) ≡ after_values count more
unfolding after_values
value_after count last None more = refl
value_after count last (Some n) more = by (int_eq n last)
  where
    by : (b : Bool) → after_values (suc count) ((if b then SAME ∷ [] else NEW ∷ number_bytes n) ++ more) ≡ after_values count more
    by true = refl
    by false = refl

-- ---- all values of a row

pub values_back : (last : ℤ) (values : List (Option ℤ)) (more : List ℕ) → AllByRecursion IsValue values → values_in (length values) last (values_bytes last values ++ more) ≡ values
unfolding values_in values_bytes
values_back last [] more h = refl
values_back last (value ∷ values) more h =
    ap (values_in (suc (length values)) last) (append_assoc (value_bytes last value) (values_bytes (last_of last value) values) more)
    ∙ value_back (length values) last value (values_bytes (last_of last value) values ++ more) h.0
    ∙ ap (λ (vs : List (Option ℤ)). value ∷ vs) (values_back (last_of last value) values more h.1)

pub after_back : (last : ℤ) (values : List (Option ℤ)) (more : List ℕ) → after_values (length values) (values_bytes last values ++ more) ≡ more
unfolding after_values values_bytes
after_back last [] more = refl
after_back last (value ∷ values) more =
    ap (after_values (suc (length values))) (append_assoc (value_bytes last value) (values_bytes (last_of last value) values) more)
    ∙ value_after (length values) last value (values_bytes (last_of last value) values ++ more)
    ∙ after_back (last_of last value) values more

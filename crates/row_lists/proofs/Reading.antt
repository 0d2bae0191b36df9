-- The value that bytes begin with, by its first byte.
use Rattle.std.proofs.Common.{◌≡◌, ◌≤◌, ◌<◌, ◌+◌, ◌++◌, ◌∙◌, ◌∷◌, [], ℕ, ℤ, zero, suc, List, Bool, true, false, Option, Some, None, FitsSigned, ap, append_assoc, arith, drop, get_or, if◌then◌else◌, length, refl, sym, take, w64}
use Rattle.std.specs.List.{AllByRecursion}
use Rattle.std.specs.Prelude.{Err, Ok, OnOk, Result, is_ok}
use Rattle.std.specs.Ordering.{int_eq}
use Rattle.std.proofs.Math.Seq.{drop-cons}
use Rattle.std.proofs.lemmas.Bool.Decides.{Decides-int_eq}
use Rattle.row_lists.specs.Carried.{IsValue, last_of, number_bytes, number_in, value_bytes, values_bytes}
use Rattle.row_lists.specs.declared.list.TheConstants.{NEW, SAME}
use Rattle.row_lists.proofs.Values.{number_back}

-- a value was read: this one, with this number known after it, and this rest
pub record IsRead (value found : Option ℤ) (more rest : List ℕ) (last now : ℤ) : Type 0 where
  pub same : found ≡ value
  pub left : rest ≡ more
  pub known : now ≡ last_of last value

first_is : {m n : ℕ} {xs ys : List ℕ} → m ∷ xs ≡ n ∷ ys → m ≡ n
first_is e = ap (λ (bytes : List ℕ). get_or bytes 0 0) e

rest_is : {m n : ℕ} {xs ys : List ℕ} → m ∷ xs ≡ n ∷ ys → xs ≡ ys
rest_is e = ap (drop 1) e

pub new_read : (kind : ℕ) (rest : List ℕ) (last : ℤ) (value : Option ℤ) (more : List ℕ) → IsValue value → kind ∷ rest ≡ value_bytes last value ++ more → (kind ≡ 0 → ⊥) → (kind ≡ 1 → ⊥)
    → (8 ≤ length rest) × IsRead value (Some (number_in rest)) more (drop 8 rest) last (number_in rest)
new_read kind rest last None more h e a b = absurd (a (first_is e))
new_read kind rest last (Some n) more h e a b = by (int_eq n last) e
  where
    by : (c : Bool) → kind ∷ rest ≡ (if c then SAME ∷ [] else NEW ∷ number_bytes n) ++ more → (8 ≤ length rest) × IsRead (Some n) (Some (number_in rest)) more (drop 8 rest) last (number_in rest)
    by true e = absurd (b (first_is e))
    by false e =
        let tail : rest ≡ number_bytes n ++ more = rest_is e in
        let long : 8 ≤ length rest = omega (arith, ap length tail) in
        let number : number_in rest ≡ n = ap number_in tail ∙ number_back n more h in
        (long, record { same = ap Some number; left = ap (drop 8) tail; known = number })

-- ---- the next of some values

pub next_value : (last : ℤ) (values : List (Option ℤ)) (at : ℕ) → at < length values
    → values_bytes last (drop at values) ≡ value_bytes last (get_or values at None) ++ values_bytes (last_of last (get_or values at None)) (drop (at + 1) values)
unfolding values_bytes
next_value last values at lt =
    ap (values_bytes last) (drop-cons values at None lt)
    ∙ ap (λ (n : ℕ). value_bytes last (get_or values at None) ++ values_bytes (last_of last (get_or values at None)) (drop n values)) (one at)
  where
    one : (n : ℕ) → suc n ≡ n + 1
    one n = omega arith

pub next_bytes : (last : ℤ) (values : List (Option ℤ)) (at : ℕ) (more : List ℕ) → at < length values
    → values_bytes last (drop at values) ++ more ≡ value_bytes last (get_or values at None) ++ (values_bytes (last_of last (get_or values at None)) (drop (at + 1) values) ++ more)
next_bytes last values at more lt =
    ap (λ (bytes : List ℕ). bytes ++ more) (next_value last values at lt)
    ∙ append_assoc (value_bytes last (get_or values at None)) (values_bytes (last_of last (get_or values at None)) (drop (at + 1) values)) more

pub each_value : (values : List (Option ℤ)) (at : ℕ) → AllByRecursion IsValue values → at < length values → IsValue (get_or values at None)
each_value [] at h lt = absurd (omega (arith, lt))
each_value (value ∷ values) zero h lt = h.0
each_value (value ∷ values) (suc at) h lt = each_value values at h.1 (omega (arith, lt))

-- the number that is known after a value fits
pub known_fits : (last : ℤ) (value : Option ℤ) → FitsSigned w64 last → IsValue value → FitsSigned w64 (last_of last value)
known_fits last None h k = h
known_fits last (Some n) h k = k

-- ---- values that were written

-- the bytes of a number of its own
pub new_bytes : (n last : ℤ) → (n ≡ last → ⊥) → value_bytes last (Some n) ≡ NEW ∷ number_bytes n
new_bytes n last other = by (int_eq n last) (Decides-int_eq n last).0
  where
    by : (b : Bool) → (b ≡ true → n ≡ last) → (if b then SAME ∷ [] else NEW ∷ number_bytes n) ≡ NEW ∷ number_bytes n
    by true same = absurd (other (same refl))
    by false same = refl

-- they were put if there was memory
pub number_put : {E : Type 0} (r : Result Unit E) (n last : ℤ) (value : Option ℤ) (old mid new : List ℕ) → value ≡ Some n → (n ≡ last → ⊥) → mid ≡ old ++ NEW ∷ [] → new ≡ (if is_ok r then mid ++ number_bytes n else mid) → OnOk r (new ≡ old ++ value_bytes last value)
number_put (Err e) n last value old mid new is other mid_is new_is = tt
number_put (Ok x) n last value old mid new is other mid_is new_is =
    new_is ∙ ap (λ (bytes : List ℕ). bytes ++ number_bytes n) mid_is ∙ append_assoc old (NEW ∷ []) (number_bytes n)
    ∙ ap (λ (bytes : List ℕ). old ++ bytes) (sym (ap (value_bytes last) is ∙ new_bytes n last other))

-- one more is a value
pub values_more : (values : List (Option ℤ)) (at : ℕ) → at < length values → AllByRecursion IsValue (take at values) → IsValue (get_or values at None) → AllByRecursion IsValue (take (at + 1) values)
values_more [] at lt h k = absurd (omega (arith, lt))
values_more (value ∷ values) zero lt h k = (k, tt)
values_more (value ∷ values) (suc at) lt h k =
    let next : suc at + 1 ≡ suc (at + 1) = omega arith in
    rw next (h.0, values_more values at (omega (arith, lt)) h.1 k)

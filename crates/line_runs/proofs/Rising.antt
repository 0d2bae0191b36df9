-- The number of a key's range, by a sample in order, rises with the key.
use Rattle.std.proofs.Common.{◌≡◌, ◌<◌, ◌≤◌, ◌+◌, ◌-◌, ◌∙◌, ℕ, zero, suc, Bool, true, false, cond, List, [], ◌∷◌, filter, length, slice_index_or, refl, ap, sym, subst, arith}
use Rattle.std.specs.Cmp.{IsTotalOrder}
use Rattle.std.specs.List.Sorted.{IsPartitionedBy, IsSortedBy}
use Rattle.std.specs.Ordering.{is_lt, ordering_reverse}
use Rattle.std.specs.declared.cmp.Ordering.{Ordering}
use Rattle.std.specs.declared.cmp.Ordering.TheVariants.{Equal, Greater, Less}
use Rattle.par_model.specs.Table.{columns_cmp}
use Rattle.result_text.specs.KeyColumns.{columns_in}
use Rattle.result_text.specs.PartTexts.{RisesBy}
use Rattle.result_text.proofs.Columns.{columns_total}
use Rattle.line_runs.specs.Ranges.{AreOrdered, count_before, count_of, is_before, range_of}
use Rattle.line_runs.specs.declared.ranges.Ranges.{Ranges}

pub less_of : (o : Ordering) → is_lt o ≡ true → o ≡ Less
less_of Less h = refl
less_of Equal h = cc
less_of Greater h = cc

-- ---- what a filter keeps

filter_fewer : {X : Type 0} (p q : X → Bool) → ((x : X) → p x ≡ true → q x ≡ true) → (xs : List X) → length (filter p xs) ≤ length (filter q xs)
filter_fewer p q within [] = omega arith
filter_fewer {X = X} p q within (x ∷ xs) = by (p x) refl (q x) refl (filter_fewer p q within xs)
  where
    by : (a : Bool) → p x ≡ a → (b : Bool) → q x ≡ b → length (filter p xs) ≤ length (filter q xs) → length (cond a (x ∷ filter p xs) (filter p xs)) ≤ length (cond b (x ∷ filter q xs) (filter q xs))
    by true e true f h = omega (arith, h)
    by true e false f h = let other : true ≡ false = sym (within x e) ∙ f in absurd (cc)
    by false e true f h = omega (arith, h)
    by false e false f h = h

pub filter_few : {X : Type 0} (p : X → Bool) (xs : List X) → length (filter p xs) ≤ length xs
filter_few p [] = omega arith
filter_few {X = X} p (x ∷ xs) = by (p x) (filter_few p xs)
  where
    by : (a : Bool) → length (filter p xs) ≤ length xs → length (cond a (x ∷ filter p xs) (filter p xs)) ≤ suc (length xs)
    by true h = omega (arith, h)
    by false h = omega (arith, h)

-- ---- a list in order, and a value

module _ {K : Type 0} (R : K → K → Ordering) (total : IsTotalOrder R) where
  -- what does not come after another comes before all that this one comes before
  lower : (a b k : K) → is_lt (R b a) ≡ false → R b k ≡ Less → R a k ≡ Less
  lower a b k up less = by (R b a) refl up
    where
      by : (o : Ordering) → R b a ≡ o → is_lt o ≡ false → R a k ≡ Less
      by Less e h = cc
      by Equal e h = sym (total.congr b a k e) ∙ less
      by Greater e h = total.trans a b k (total.antisymm a b ∙ ap ordering_reverse e) less

  module _ {X : Type 0} (f : X → K) (xs : List X) (k : K) (sorted : IsSortedBy (λ a b. is_lt (R (f a) (f b))) xs) where
    down : (n i : ℕ) (d : X) → i + n < length xs → is_lt (R (f (slice_index_or xs (i + n) d)) k) ≡ true → is_lt (R (f (slice_index_or xs i d)) k) ≡ true
    down zero i d lt h = subst (λ m. is_lt (R (f (slice_index_or xs m d)) k) ≡ true) (let e : i + 0 ≡ i = omega arith in e) h
    down (suc n) i d lt h =
        let here = i + n in
        let next : i + suc n ≡ here + 1 = omega arith in
        let above : is_lt (R (f (slice_index_or xs (here + 1) d)) k) ≡ true = subst (λ m. is_lt (R (f (slice_index_or xs m d)) k) ≡ true) next h in
        let less = lower (f (slice_index_or xs here d)) (f (slice_index_or xs (here + 1) d)) k (sorted here d (omega arith) (omega (arith, lt))) (less_of _ above) in
        down n i d (omega (arith, lt)) (ap is_lt less)

    pub parted : IsPartitionedBy (λ x. is_lt (R (f x) k)) xs
    parted i j d le lt h =
        let n = j - i in
        let e : i + n ≡ j = omega (arith, le) in
        down n i d (omega (arith, e, lt)) (subst (λ m. is_lt (R (f (slice_index_or xs m d)) k) ≡ true) (sym e) h)

  -- what comes before one comes before what comes after that, and before what ties
  higher : (x b a : K) → (R a b ≡ Less → ⊥) → R x b ≡ Less → R x a ≡ Less
  higher x b a not_less less = by (R a b) refl
    where
      by : (o : Ordering) → R a b ≡ o → R x a ≡ Less
      by Less e = absurd (not_less e)
      by Equal e = total.antisymm x a ∙ ap ordering_reverse (total.congr a b x e) ∙ sym (total.antisymm x b) ∙ less
      by Greater e = total.trans x b a less (total.antisymm b a ∙ ap ordering_reverse e)

-- ---- ranges

abbrev columns_at : Ranges → List ℕ → List (List ℕ)
columns_at r key = columns_in r.columns key

pub rises : (r : Ranges) → RisesBy r.columns (range_of r)
rises r a b less = by (columns_cmp (columns_at r a) (columns_at r b)) refl
  where
    not_less : (columns_cmp (columns_at r a) (columns_at r b) ≡ Less → ⊥) → ⊥
    not_less never =
        let fewer : count_before r b ≤ count_before r a =
        filter_fewer (λ other. is_before r.columns other.now b) (λ other. is_before r.columns other.now a)
        (λ other h. ap is_lt (higher columns_cmp columns_total (columns_at r other.now) (columns_at r b) (columns_at r a) never (less_of _ h))) r.sample.items in
        omega (arith, less, fewer)

    by : (o : Ordering) → columns_cmp (columns_at r a) (columns_at r b) ≡ o → columns_cmp (columns_at r a) (columns_at r b) ≡ Less
    by Less e = e
    by Equal e = absurd (not_less (λ l. let other : Equal ≡ Less = sym e ∙ l in cc))
    by Greater e = absurd (not_less (λ l. let other : Greater ≡ Less = sym e ∙ l in cc))

pub range_below : (r : Ranges) (key : List ℕ) → range_of r key < count_of r
range_below r key = let few = filter_few (λ other. is_before r.columns other.now key) r.sample.items in omega (arith, few)

pub ordered_parts : (r : Ranges) (key : List ℕ) → AreOrdered r → IsPartitionedBy (λ other. is_before r.columns other.now key) r.sample.items
ordered_parts r key sorted = parted columns_cmp columns_total (λ other. columns_at r other.now) r.sample.items (columns_at r key) sorted

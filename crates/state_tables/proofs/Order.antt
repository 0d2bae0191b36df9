-- The order of lines, by the keys at which ranges begin.
use Rattle.std.proofs.Common.{◌≡◌, ◌&&◌, ◌||◌, ◌++◌, ◌∙◌, ℕ, Bool, true, false, List, [], ◌∷◌, ap, not, refl, sym}
use Rattle.std.specs.List.{AllByRecursion}
use Rattle.std.specs.List.Sorted.{IsStrictlySortedBy}
use Rattle.std.specs.Ordering.{is_lt, ordering_reverse}
use Rattle.std.specs.declared.cmp.Ordering.{Ordering}
use Rattle.std.specs.declared.cmp.Ordering.TheVariants.{Equal, Greater, Less}
use Rattle.par_model.specs.Table.{columns_cmp}
use Rattle.result_text.specs.KeyColumns.{columns_in}
use Rattle.result_text.proofs.Columns.{columns_total}
use Rattle.state_order.specs.Ranges.{is_before, is_below, is_from, is_open}

pub is_less : (o : Ordering) → is_lt o ≡ true → o ≡ Less
is_less Less e = refl
is_less Equal e = cc
is_less Greater e = cc

abbrev pub Columns : Type 0
Columns = List (List ℕ)

-- what comes before a line comes before each that this line does not come after
pub less_through : (a b c : Columns) → columns_cmp a c ≡ Less → is_lt (columns_cmp b c) ≡ false → columns_cmp a b ≡ Less
less_through a b c less not_before = by (columns_cmp b c) refl not_before
  where
    by : (o : Ordering) → columns_cmp b c ≡ o → is_lt o ≡ false → columns_cmp a b ≡ Less
    by Less e after = cc
    by Equal e after =
        let turned : columns_cmp c a ≡ Greater = columns_total.antisymm c a ∙ ap ordering_reverse less in
        columns_total.antisymm a b ∙ ap ordering_reverse (columns_total.congr b c a e ∙ turned)
    by Greater e after = columns_total.trans a c b less (columns_total.antisymm c b ∙ ap ordering_reverse e)

-- no line comes before itself
pub not_itself : (a : Columns) → columns_cmp a a ≡ Less → ⊥
not_itself a less = by (columns_cmp a a) (columns_total.antisymm a a) less
  where
    by : (o : Ordering) → o ≡ ordering_reverse o → o ≡ Less → ⊥
    by o h e =
        let f : Less ≡ Greater = sym e ∙ h ∙ ap ordering_reverse e in
        cc

before_trans : (n : ℕ) (a b c : List ℕ) → is_before n a b ≡ true → is_before n b c ≡ true → is_before n a c ≡ true
before_trans n a b c ab bc =
    ap is_lt (columns_total.trans (columns_in n a) (columns_in n b) (columns_in n c) (is_less (columns_cmp (columns_in n a) (columns_in n b)) ab) (is_less (columns_cmp (columns_in n b) (columns_in n c)) bc))

-- ---- tests of a range

pub both : (a b : Bool) → (a && b) ≡ true → (a ≡ true) × (b ≡ true)
both true b e = (refl, e)
both false b e = cc

pub and_of : (a b : Bool) → a ≡ true → b ≡ true → (a && b) ≡ true
and_of true b e f = f
and_of false b e f = cc

closed_test : (free before : Bool) → free ≡ false → (free || before) ≡ true → before ≡ true
closed_test false before o e = e
closed_test true before o e = cc

closed_not : (free before : Bool) → free ≡ false → (free || not before) ≡ true → before ≡ false
closed_not false true o e = cc
closed_not false false o e = refl
closed_not true before o e = cc

-- a key below an end that has bytes comes before it, and one from it on does not
pub below_before : (n : ℕ) (cut key : List ℕ) → is_open cut ≡ false → is_below n cut key ≡ true → is_before n key cut ≡ true
below_before n cut key closed below = closed_test (is_open cut) (is_before n key cut) closed below

pub from_not : (n : ℕ) (cut key : List ℕ) → is_open cut ≡ false → is_from n cut key ≡ true → is_before n key cut ≡ false
from_not n cut key closed from = closed_not (is_open cut) (is_before n key cut) closed from

pub below_of : (n : ℕ) (cut key : List ℕ) → is_before n key cut ≡ true → is_below n cut key ≡ true
below_of n cut key before = by (is_open cut) (is_before n key cut) before
  where
    by : (free b : Bool) → b ≡ true → (free || b) ≡ true
    by true b e = refl
    by false b e = e

pub from_of : (n : ℕ) (cut key : List ℕ) → is_before n key cut ≡ false → is_from n cut key ≡ true
from_of n cut key before = by (is_open cut) (is_before n key cut) before
  where
    by : (free b : Bool) → b ≡ false → (free || not b) ≡ true
    by true b e = refl
    by false false e = refl
    by false true e = cc

-- a key from a later cut on is one from the low end on
pub from_earlier : (n : ℕ) (low cut key : List ℕ) → is_open cut ≡ false → (is_open low || is_before n low cut) ≡ true → is_from n cut key ≡ true → is_from n low key ≡ true
from_earlier n low cut key closed rise from = by (is_open low) refl rise
  where
    none : (b : Bool) → is_before n key low ≡ b → is_before n low cut ≡ true → is_from n low key ≡ true
    none false e up = from_of n low key e
    none true e up =
        let less = before_trans n key low cut e up in
        let no : true ≡ false = sym less ∙ from_not n cut key closed from in
        cc

    by : (free : Bool) → is_open low ≡ free → (free || is_before n low cut) ≡ true → is_from n low key ≡ true
    by true e up = ap (λ (b : Bool). b || not (is_before n key low)) e
    by false e up = none (is_before n key low) refl up

-- ---- lists that rise

each_append : {X : Type 0} (P : X → Type 0) (xs ys : List X) → AllByRecursion P xs → AllByRecursion P ys → AllByRecursion P (xs ++ ys)
each_append P [] ys h k = k
each_append P (x ∷ xs) ys h k = (h.0, each_append P xs ys h.1 k)

pub rising_append : (xs ys : List Columns) → IsStrictlySortedBy columns_cmp xs → IsStrictlySortedBy columns_cmp ys → AllByRecursion (λ x. AllByRecursion (λ y. columns_cmp x y ≡ Less) ys) xs → IsStrictlySortedBy columns_cmp (xs ++ ys)
unfolding IsStrictlySortedBy
rising_append [] ys h k before = k
rising_append (x ∷ xs) ys h k before = (each_append (λ y. columns_cmp x y ≡ Less) xs ys h.0 before.0, rising_append xs ys h.1 k before.1)

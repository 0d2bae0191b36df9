-- Which of the ranges between some keys a key lies in.
use Rattle.std.proofs.Common.{◌≡◌, ◌<◌, ◌==◌, ◌&&◌, ◌||◌, ◌∙◌, ℕ, zero, suc, Bool, true, false, List, [], ◌∷◌, ap, arith, cond, get_or, length, not, refl, sym}
use Rattle.std.proofs.Math.Dec.{eqb-suc-suc, eqb-suc-zero, eqb-zero-suc}
use Rattle.std.specs.Ordering.{is_lt, ordering_reverse}
use Rattle.std.specs.declared.cmp.Ordering.{Ordering}
use Rattle.std.specs.declared.cmp.Ordering.TheVariants.{Equal, Greater, Less}
use Rattle.par_model.specs.Table.{columns_cmp}
use Rattle.result_text.specs.KeyColumns.{columns_in}
use Rattle.result_text.proofs.Columns.{columns_total}
use Rattle.state_head.specs.Words.{Keys}
use Rattle.state_order.specs.Ranges.{is_before, is_from, is_open, is_within}
use Rattle.state_range.specs.Ranges.{RiseFrom, ranges_from}

-- ---- the order of lines

is_less : (o : Ordering) → is_lt o ≡ true → o ≡ Less
is_less Less e = refl
is_less Equal e = cc
is_less Greater e = cc

abbrev Columns : Type 0
Columns = List (List ℕ)

-- what comes before a line comes before each that this line does not come after
less_through : (a b c : Columns) → columns_cmp a c ≡ Less → is_lt (columns_cmp b c) ≡ false → columns_cmp a b ≡ Less
less_through a b c less not_before = by (columns_cmp b c) refl not_before
  where
    by : (o : Ordering) → columns_cmp b c ≡ o → is_lt o ≡ false → columns_cmp a b ≡ Less
    by Less e after = cc
    by Equal e after =
        let turned : columns_cmp c a ≡ Greater = columns_total.antisymm c a ∙ ap ordering_reverse less in
        columns_total.antisymm a b ∙ ap ordering_reverse (columns_total.congr b c a e ∙ turned)
    by Greater e after = columns_total.trans a c b less (columns_total.antisymm c b ∙ ap ordering_reverse e)

before_trans : (n : ℕ) (a b c : List ℕ) → is_before n a b ≡ true → is_before n b c ≡ true → is_before n a c ≡ true
before_trans n a b c ab bc =
    ap is_lt (columns_total.trans (columns_in n a) (columns_in n b) (columns_in n c) (is_less (columns_cmp (columns_in n a) (columns_in n b)) ab) (is_less (columns_cmp (columns_in n b) (columns_in n c)) bc))

-- ---- the range of a key: how many of some rising keys it does not come before

abbrev pub part_of : ℕ → List (List ℕ) → List ℕ → ℕ
part_of n [] key = 0
part_of n (cut ∷ cuts) key = cond (is_before n key cut) 0 (suc (part_of n cuts key))

pub rises : (n : ℕ) (cuts : List (List ℕ)) (a b : List ℕ) → part_of n cuts a < part_of n cuts b → columns_cmp (columns_in n a) (columns_in n b) ≡ Less
rises n [] a b lt = absurd (omega (arith, lt))
rises n (cut ∷ cuts) a b lt = by (λ later. rises n cuts a b later) (is_before n a cut) (is_before n b cut) refl refl lt
  where
    by : (part_of n cuts a < part_of n cuts b → columns_cmp (columns_in n a) (columns_in n b) ≡ Less) → (x y : Bool) → is_before n a cut ≡ x → is_before n b cut ≡ y → cond x 0 (suc (part_of n cuts a)) < cond y 0 (suc (part_of n cuts b))
        → columns_cmp (columns_in n a) (columns_in n b) ≡ Less
    by more true true e f lt = absurd (omega (arith, lt))
    by more true false e f lt = less_through (columns_in n a) (columns_in n b) (columns_in n cut) (is_less (columns_cmp (columns_in n a) (columns_in n cut)) e) f
    by more false true e f lt = absurd (omega (arith, lt))
    by more false false e f lt = more (omega (arith, lt))

pub part_low : (n : ℕ) (low : List ℕ) (cuts : List (List ℕ)) (key : List ℕ) → part_of n cuts key < length (ranges_from low cuts)
part_low n low [] key = omega arith
part_low n low (cut ∷ cuts) key = by (is_before n key cut) (part_low n cut cuts key)
  where
    by : (x : Bool) → part_of n cuts key < length (ranges_from cut cuts) → cond x 0 (suc (part_of n cuts key)) < suc (length (ranges_from cut cuts))
    by true lt = omega arith
    by false lt = omega (arith, lt)

-- ---- a key lies in the range of its number, and in no other

not_from : (free before : Bool) → free ≡ false → before ≡ true → (free || not before) ≡ false
not_from false true o b = refl
not_from true before o b = cc
not_from false false o b = cc

split_from : (free before : Bool) → (free || not before) ≡ false → (free ≡ false) × (before ≡ true)
split_from false true e = (refl, refl)
split_from true before e = cc
split_from false false e = cc

closed : (free rest : Bool) → free ≡ false → (free || rest) ≡ true → rest ≡ true
closed false rest o e = e
closed true rest o e = cc

no_low : (from below : Bool) → from ≡ false → (from && below) ≡ false
no_low false below e = refl
no_low true below e = cc

-- a key before the low end lies in none of the ranges from there on
pub not_in : (n : ℕ) (low : List ℕ) (cuts : List (List ℕ)) (key : List ℕ) (k : ℕ) (d : Keys) → RiseFrom n low cuts → is_from n low key ≡ false → k < length (ranges_from low cuts) → is_within n (get_or (ranges_from low cuts) k d) key ≡ false
not_in n low [] key zero d rise from lt = no_low (is_from n low key) true from
not_in n low [] key (suc k) d rise from lt = absurd (omega (arith, lt))
not_in n low (cut ∷ cuts) key zero d rise from lt = no_low (is_from n low key) (is_open cut || is_before n key cut) from
not_in n low (cut ∷ cuts) key (suc k) d rise from lt =
    let s = split_from (is_open low) (is_before n key low) from in
    let later : is_before n key cut ≡ true = before_trans n key low cut s.1 (closed (is_open low) (is_before n low cut) s.0 rise.1) in
    not_in n cut cuts key k d rise.2 (not_from (is_open cut) (is_before n key cut) rise.0 later) (omega (arith, lt))

last_in : (from : Bool) → from ≡ true → (from && true) ≡ true
last_in true e = refl
last_in false e = cc

zero_in : (p : ℕ) (before from free : Bool) → from ≡ true → free ≡ false → (cond before 0 (suc p) == 0) ≡ (from && (free || before))
zero_in p true true false f o = refl
zero_in p false true false f o = eqb-suc-zero p
zero_in p before false free f o = cc
zero_in p before true true f o = cc

from_cut : (free before : Bool) → before ≡ false → (free || not before) ≡ true
from_cut true before e = refl
from_cut false false e = refl
from_cut false true e = cc

later_in : (n : ℕ) (cut : List ℕ) (cuts : List (List ℕ)) (key : List ℕ) (k : ℕ) (d : Keys) → is_open cut ≡ false → (x : Bool) → is_before n key cut ≡ x
    → (is_from n cut key ≡ false → is_within n (get_or (ranges_from cut cuts) k d) key ≡ false) → (is_from n cut key ≡ true → (part_of n cuts key == k) ≡ is_within n (get_or (ranges_from cut cuts) k d) key)
    → (cond x 0 (suc (part_of n cuts key)) == suc k) ≡ is_within n (get_or (ranges_from cut cuts) k d) key
later_in n cut cuts key k d closed true e out ins = eqb-zero-suc k ∙ sym (out (not_from (is_open cut) (is_before n key cut) closed e))
later_in n cut cuts key k d closed false e out ins = eqb-suc-suc (part_of n cuts key) k ∙ ins (from_cut (is_open cut) (is_before n key cut) e)

pub in_part : (n : ℕ) (low : List ℕ) (cuts : List (List ℕ)) (key : List ℕ) (k : ℕ) (d : Keys) → RiseFrom n low cuts → is_from n low key ≡ true → k < length (ranges_from low cuts)
    → (part_of n cuts key == k) ≡ is_within n (get_or (ranges_from low cuts) k d) key
in_part n low [] key zero d rise from lt = sym (last_in (is_from n low key) from)
in_part n low [] key (suc k) d rise from lt = absurd (omega (arith, lt))
in_part n low (cut ∷ cuts) key zero d rise from lt = zero_in (part_of n cuts key) (is_before n key cut) (is_from n low key) (is_open cut) from rise.0
in_part n low (cut ∷ cuts) key (suc k) d rise from lt =
    let here : k < length (ranges_from cut cuts) = omega (arith, lt) in
    later_in n cut cuts key k d rise.0 (is_before n key cut) refl (λ before. not_in n cut cuts key k d rise.2 before here) (λ from. in_part n cut cuts key k d rise.2 from here)

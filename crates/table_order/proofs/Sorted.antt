-- Sorted entries are the rows of a table in order.
use Rattle.std.proofs.Common.{◌≡◌, ◌<◌, ◌+◌, ◌∙◌, ◌∷◌, ◌++◌, [], All, Bool, ℕ, List, true, false, ap, arith, get_or, length, map, refl, subst, suc, sym, true≢false, zero}
use Rattle.std.specs.Borrow.{Bor}
use Rattle.std.specs.Prelude.{Err, IfOk, Ok, Result}
use Rattle.std.proofs.lemmas.Bool.Decides.{nat_tests}
use Rattle.std.proofs.lemmas.Cmp.{eq_by_cmp_equiv, nat_cmp_total, on_total, then_total, tied_itself}
use Rattle.std.proofs.lemmas.List.{get_or-map, length-map, map-append}
use Rattle.std.proofs.lemmas.List.Elements.{All-head, All-push, All-tail}
use Rattle.std.proofs.lemmas.List.FromFn.{get_or-range_with_len, length-range_with_len}
use Rattle.std.proofs.lemmas.List.Sorted.{All-permutation, IsPermutation-map}
use Rattle.std.proofs.lemmas.Map.Keys.{IsDistinct-IsPermutation, IsDistinct-from_sorted, apart_from_distinct, sorted_from_all_adjacent}
use Rattle.std.specs.Cmp.{IsTotalOrder}
use Rattle.std.specs.List.{IsDistinct, range_with_len}
use Rattle.std.specs.List.Sorted.{IsPermutation, IsSortedBy, IsStrictlySortedBy}
use Rattle.std.specs.Ordering.{eq_by_cmp, is_eq, is_gt, is_lt, nat_cmp, ordering_reverse, ordering_then}
use Rattle.std.specs.declared.cmp.Ordering.{Ordering}
use Rattle.std.specs.declared.cmp.Ordering.TheVariants.{Equal, Greater, Less}
use Rattle.csv.specs.Writing.{default_writer, escaped, row_text}
use Rattle.csv_rows.specs.Records.{field_of, record_at}
use Rattle.table_order.specs.Entries.{AreEntries, IsEntry, IsOrderedText, entries_cmp, left_of, line_at}
use Rattle.table_order.specs.Order.{fields_cmp, places_cmp}
use Rattle.table_order.specs.declared.entry.Entry.{Entry}
use Rattle.table_order.specs.declared.order.Order.{Order}
use Rattle.table_order.proofs.Escaped.{fields-twice}
use Rattle.table_order.proofs.Orders.{fields-total, ranks-follow}
use Rattle.table_order.proofs.Values.{same-from, then-more}

-- ---- entries compare as their rows

abbrev its_field : Order → List (List (List ℕ)) → Entry → List ℕ
its_field order rows entry = escaped default_writer (field_of rows entry.at order.column)

abbrev IsOf : Order → List (List (List ℕ)) → Entry → Type 0
IsOf order rows entry = IsEntry order (its_field order rows entry) entry

fields-rank : (order : Order) (f g : List ℕ) (a b : Entry) → IsEntry order f a → IsEntry order g b
    → ordering_then (nat_cmp a.rank b.rank) (fields_cmp order.by order.down a.left.now b.left.now) ≡ fields_cmp order.by order.down f g
fields-rank order f g a b is_a is_b =
    let kind = order.by in
    let down = order.down in
    let left_a = is_a.left ∙ ap (λ r. left_of r f) is_a.rank in
    let left_b = is_b.left ∙ ap (λ r. left_of r g) is_b.rank in
    (λ i. ordering_then (nat_cmp (is_a.rank i) (is_b.rank i)) (fields_cmp kind down (left_a i) (left_b i))) ∙ ranks-follow kind down f g

pub entries-rows : (order : Order) (rows : List (List (List ℕ))) (a b : Entry) → IsOf order rows a → IsOf order rows b → entries_cmp order a b ≡ places_cmp order rows a.at b.at
entries-rows order rows a b is_a is_b =
    then-more (nat_cmp a.rank b.rank) (fields_cmp order.by order.down a.left.now b.left.now) (nat_cmp a.at b.at)
    ∙ ap (λ o. ordering_then o (nat_cmp a.at b.at)) (fields-rank order (its_field order rows a) (its_field order rows b) a b is_a is_b
    ∙ fields-twice order.by order.down (field_of rows a.at order.column) (field_of rows b.at order.column))

pub places-total : (order : Order) (rows : List (List (List ℕ))) → IsTotalOrder (places_cmp order rows)
places-total order rows = then_total (on_total (λ row. field_of rows row order.column) (fields-total order.by order.down)) nat_cmp_total

pub entries-total : (order : Order) → IsTotalOrder (entries_cmp order)
entries-total order = then_total (on_total (λ (entry : Entry). entry.rank) nat_cmp_total)
    (then_total (on_total (λ (entry : Entry). entry.left.now) (fields-total order.by order.down)) (on_total (λ (entry : Entry). entry.at) nat_cmp_total))

-- ---- places that are sorted rise

-- of an order that is total: what is not before another and not equal to it comes after it
after : {K : Type 0} (R : K → K → Ordering) → IsTotalOrder R → (x y : K) → is_lt (R y x) ≡ false → (R x y ≡ Equal → ⊥) → R x y ≡ Less
after R total x y not_before other = by (R x y) (R y x) refl refl (total.antisymm x y)
  where
    by : (r s : Ordering) → R x y ≡ r → R y x ≡ s → R x y ≡ ordering_reverse (R y x) → R x y ≡ Less
    by Less s e f h = e
    by Equal s e f h = absurd (other e)
    by Greater Less e f h = cc (rw f at not_before)
    by Greater Equal e f h = cc (rw f at h)
    by Greater Greater e f h = rw f at h

second-equal : (o p : Ordering) → ordering_then o p ≡ Equal → p ≡ Equal
second-equal Less p is = absurd (true≢false (ap is_lt is))
second-equal Equal p is = is
second-equal Greater p is = absurd (true≢false (ap is_gt is))

places-apart : (order : Order) (rows : List (List (List ℕ))) (m n : ℕ) → places_cmp order rows m n ≡ Equal → m ≡ n
places-apart order rows m n tie =
    let o = fields_cmp order.by order.down (field_of rows m order.column) (field_of rows n order.column) in
    same-from m n (nat_cmp m n) refl (second-equal o (nat_cmp m n) tie)

abbrev pub at_of : Entry → ℕ
at_of entry = entry.at

-- ---- the numbers of a range

abbrev Same : ℕ → ℕ → Bool
Same = eq_by_cmp nat_cmp

range-rises : (from n : ℕ) → IsStrictlySortedBy nat_cmp (range_with_len from n)
range-rises from n = sorted_from_all_adjacent nat_cmp_total (range_with_len from n) 0 (λ k lt.
    let long = length-range_with_len from n in
    let here : get_or (range_with_len from n) k 0 ≡ from + k = get_or-range_with_len from n k 0 (omega (arith, lt, long)) in
    let next : get_or (range_with_len from n) (k + 1) 0 ≡ from + (k + 1) = get_or-range_with_len from n (k + 1) 0 (omega (arith, lt, long)) in
    rw (here, next) (rise (from + k) (from + (k + 1)) (omega arith)))
  where
    rise : (x y : ℕ) → x < y → nat_cmp x y ≡ Less
    rise x y lt = grind (arith, nat_tests)

range-distinct : (from n : ℕ) → IsDistinct Same (range_with_len from n)
range-distinct from n = IsDistinct-from_sorted nat_cmp (range_with_len from n) (range-rises from n)

pub range-more : (from n : ℕ) → range_with_len from (suc n) ≡ range_with_len from n ++ (from + n) ∷ []
range-more from zero = ap (λ x. x ∷ []) (omega arith)
range-more from (suc n) = ap (λ xs. from ∷ xs) (range-more (from + 1) n ∙ ap (λ x. range_with_len (from + 1) n ++ x ∷ []) (omega arith))

at-get : (entries : List Entry) (k : ℕ) (d : Entry) → k < length entries → get_or (map at_of entries) k d.at ≡ (get_or entries k d).at
at-get entries k d lt = get_or-map at_of entries k d d.at lt

same-test : (m n : ℕ) → m ≡ n → Same m n ≡ true
same-test m n is = ap (Same m) (sym is) ∙ ap is_eq (tied_itself nat_cmp_total m)

rises-at : (order : Order) (rows : List (List (List ℕ))) (a b : Entry) → IsOf order rows a → IsOf order rows b → Same a.at b.at ≡ false → is_lt (entries_cmp order b a) ≡ false → places_cmp order rows a.at b.at ≡ Less
rises-at order rows a b is_a is_b apart not_before =
    after (places_cmp order rows) (places-total order rows) a.at b.at (ap is_lt (sym (entries-rows order rows b a is_b is_a)) ∙ not_before)
    (λ tie. true≢false (sym (same-test a.at b.at (places-apart order rows a.at b.at tie)) ∙ apart))

rising-from : (order : Order) (rows : List (List (List ℕ))) (entries : List Entry) (d : Entry) → IsDistinct Same (map at_of entries) → AreEntries order rows entries
    → IsSortedBy (λ a b. is_lt (entries_cmp order a b)) entries → IsStrictlySortedBy (places_cmp order rows) (map at_of entries)
rising-from order rows entries d distinct are sorted =
    let long = length-map entries at_of in
    sorted_from_all_adjacent (places-total order rows) (map at_of entries) d.at (λ k lt.
    let here : k < length entries = omega (arith, lt, long) in
    let next : k + 1 < length entries = omega (arith, lt, long) in
    let apart = apart_from_distinct Same (map at_of entries) k (k + 1) d.at distinct (omega arith) lt in
    let ats_apart : Same (get_or entries k d).at (get_or entries (k + 1) d).at ≡ false = rw (at-get entries k d here, at-get entries (k + 1) d next) at apart in
    rw (at-get entries k d here, at-get entries (k + 1) d next)
    (rises-at order rows (get_or entries k d) (get_or entries (k + 1) d) (are k d here) (are (k + 1) d next) ats_apart (sorted k d (omega arith) next)))

rising : (order : Order) (rows : List (List (List ℕ))) (entries : List Entry) → IsDistinct Same (map at_of entries) → AreEntries order rows entries
    → IsSortedBy (λ a b. is_lt (entries_cmp order a b)) entries → IsStrictlySortedBy (places_cmp order rows) (map at_of entries)
unfolding IsStrictlySortedBy
rising order rows [] distinct are sorted = tt
rising order rows (e ∷ entries) distinct are sorted = rising-from order rows (e ∷ entries) e distinct are sorted

-- ---- the lines of sorted entries

lines-same : (rows : List (List (List ℕ))) (lines : List (List ℕ)) (entries : List Entry) → lines ≡ map (row_text default_writer) rows → All (λ (entry : Entry). entry.at < length rows) entries
    → map (line_at lines) entries ≡ map (row_text default_writer) (map (record_at rows) (map at_of entries))
lines-same rows lines [] is within = refl
lines-same rows lines (e ∷ entries) is within =
    let here = All-head (λ (entry : Entry). entry.at < length rows) e entries within in
    let one = ap (λ ls. get_or ls e.at []) is ∙ get_or-map (row_text default_writer) rows e.at [] [] here in
    (λ i. one i ∷ lines-same rows lines entries is (All-tail (λ (entry : Entry). entry.at < length rows) e entries within) i)

pub ordered-rows : (order : Order) (rows : List (List (List ℕ))) (before after : List Entry) (lines : List (List ℕ)) → map at_of before ≡ range_with_len 0 (length rows) → AreEntries order rows before
    → IsPermutation before after → IsSortedBy (λ a b. is_lt (entries_cmp order a b)) after → lines ≡ map (row_text default_writer) rows → All (λ (entry : Entry). entry.at < length rows) after
    → IsOrderedText order rows (map (line_at lines) after)
ordered-rows order rows before after lines ats are same sorted is within =
    let moved = IsPermutation-map at_of before after same in
    let distinct = IsDistinct-IsPermutation Same (eq_by_cmp_equiv nat_cmp_total).symm (map at_of before) (map at_of after) moved (subst (IsDistinct Same) (sym ats) (range-distinct 0 (length rows))) in
    record {
      ordered = map (record_at rows) (map at_of after);
      are = record {
        places = map at_of after;
        all = subst (λ (ps : List ℕ). IsPermutation ps (map at_of after)) ats moved;
        rising = rising order rows after distinct (All-permutation (IsOf order rows) before after same are) sorted;
        are = refl;
      };
      is = lines-same rows lines after is within;
    }

-- ---- entries as they are made

pub ats-within : (entries : List Entry) (n : ℕ) → map at_of entries ≡ range_with_len 0 n → All (λ (entry : Entry). entry.at < n) entries
ats-within entries n is k d lt =
    let long : length entries ≡ n = sym (length-map entries at_of) ∙ ap length is ∙ length-range_with_len 0 n in
    let here : (get_or entries k d).at ≡ 0 + k = sym (at-get entries k d lt) ∙ ap (λ ps. get_or ps k d.at) is ∙ get_or-range_with_len 0 n k d.at (omega (arith, lt, long)) in
    omega (arith, here, lt, long)

pub ats-more : (old new : List Entry) (entry : Entry) (at : ℕ) → new ≡ old ++ entry ∷ [] → entry.at ≡ at → map at_of old ≡ range_with_len 0 at → map at_of new ≡ range_with_len 0 (at + 1)
ats-more old new entry at is at_is so_far =
    let count : suc at ≡ at + 1 = omega arith in
    ap (map at_of) is ∙ map-append at_of old (entry ∷ []) ∙ (λ i. so_far i ++ at_is i ∷ []) ∙ ap (λ x. range_with_len 0 at ++ x ∷ []) (omega arith) ∙ sym (range-more 0 at) ∙ ap (range_with_len 0) count

abbrev pub bytes : Bor (List ℕ) → List ℕ
bytes line = line.now

pub line-of-row : (lines : List (Bor (List ℕ))) (rows : List (List (List ℕ))) (at : ℕ) (d : Bor (List ℕ)) → at < length lines → map bytes lines ≡ map (row_text default_writer) rows → (get_or lines at d).now ≡ row_text default_writer (record_at rows at)
line-of-row lines rows at d lt is =
    let long : length rows ≡ length lines = sym (length-map rows (row_text default_writer)) ∙ ap length (sym is) ∙ length-map lines bytes in
    sym (get_or-map bytes lines at d [] lt) ∙ ap (λ ls. get_or ls at []) is ∙ get_or-map (row_text default_writer) rows at [] [] (omega (arith, lt, long))

pub entries-more : (order : Order) (rows : List (List (List ℕ))) (old new : List Entry) (entry : Entry) (at : ℕ) (line field : List ℕ) → new ≡ old ++ entry ∷ [] → entry.at ≡ at → line ≡ row_text default_writer (record_at rows at)
    → ((fields : List (List ℕ)) → line ≡ row_text default_writer fields → field ≡ escaped default_writer (get_or fields order.column [])) → IsEntry order field entry → AreEntries order rows old → AreEntries order rows new
entries-more order rows old new entry at line field is at_is line_is field_is made so_far =
    let its = field_is (record_at rows at) line_is ∙ ap (λ k. escaped default_writer (field_of rows k order.column)) (sym at_is) in
    subst (AreEntries order rows) (sym is) (All-push (IsOf order rows) old entry so_far (subst (λ f. IsEntry order f entry) its made))

-- ---- an answer with more

pub if-ok-more : {T E : Type 0} (r : Result T E) (P Q : T → Type 0) → IfOk r P → ((x : T) → P x → Q x) → IfOk r Q
if-ok-more (Ok x) P Q h more = more x h
if-ok-more (Err e) P Q h more = tt

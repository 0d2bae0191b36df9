-- Keys whose columns have the same lengths compare as their columns do.
use Rattle.std.proofs.Common.{◌≡◌, ◌<◌, ◌≤◌, ◌+◌, ◌-◌, ◌++◌, ◌∷◌, ◌∙◌, [], ap, sym, refl, arith, false, true, ℕ, zero, suc, List, All, length, map, take}
use Rattle.std.proofs.lemmas.List.Elements.{All-same}
use Rattle.std.proofs.lemmas.List.{take_all}
use Rattle.std.specs.Cmp.Lexicographic.{nat_list_cmp_total, slice_cmp}
use Rattle.std.specs.Cmp.{eq_by_cmp_equiv, nat_cmp_total}
use Rattle.std.specs.Int.{to_le_bytes, w32}
use Rattle.std.specs.List.Sorted.{IsSortedBy, IsStrictlySortedBy}
use Rattle.std.specs.Ordering.{is_eq, is_lt, nat_cmp, ordering_reverse, ordering_then}
use Rattle.std.specs.declared.cmp.Ordering.{Ordering}
use Rattle.std.specs.declared.cmp.Ordering.TheVariants.{Equal, Greater, Less}
use Rattle.par_model.specs.Key.{encoded}
use Rattle.par_model.specs.Table.{columns_cmp}
use Rattle.partial_agg.specs.Groups.{key_cmp}
use Rattle.partial_agg.specs.declared.groups.Group.{Group}
use Rattle.result_text.specs.KeyColumns.{after_first_column, columns_in, first_column, lengths_in}
use Rattle.result_text.specs.GroupOrder.{group_of, is_before}
use Rattle.result_text.specs.declared.order.GroupRef.{GroupRef}
use Rattle.result_text.proofs.KeyColumns.{encoded-cons}
use Rattle.result_text.proofs.Sorting.{IsRead}

then_associates : (o p q : Ordering) → ordering_then o (ordering_then p q) ≡ ordering_then (ordering_then o p) q
then_associates Less p q = refl
then_associates Equal p q = refl
then_associates Greater p q = refl

same_byte : (n : ℕ) → nat_cmp n n ≡ Equal
same_byte n = is_equal (nat_cmp n n) ((eq_by_cmp_equiv nat_cmp_total).refl n)
  where
    is_equal : (o : Ordering) → is_eq o ≡ true → o ≡ Equal
    is_equal Less e = cc
    is_equal Equal e = refl
    is_equal Greater e = cc

-- what both begin with decides nothing
same_front : (front a b : List ℕ) → key_cmp (front ++ a) (front ++ b) ≡ key_cmp a b
same_front [] a b = refl
same_front (x ∷ front) a b = rw (same_byte x) (same_front front a b)

-- fronts of one length decide first
fronts_first : (x y a b : List ℕ) → length x ≡ length y → key_cmp (x ++ a) (y ++ b) ≡ ordering_then (key_cmp x y) (key_cmp a b)
fronts_first [] [] a b e = refl
fronts_first [] (m ∷ y) a b e = absurd (omega arith)
fronts_first (n ∷ x) [] a b e = absurd (omega arith)
fronts_first (n ∷ x) (m ∷ y) a b e = ap (ordering_then (nat_cmp n m)) (fronts_first x y a b (omega arith)) ∙ then_associates (nat_cmp n m) (key_cmp x y) (key_cmp a b)

by_columns : (xs ys : List (List ℕ)) → map length xs ≡ map length ys → key_cmp (encoded xs) (encoded ys) ≡ columns_cmp xs ys
unfolding encoded
by_columns [] [] e = refl
by_columns [] (y ∷ ys) e = absurd (cc)
by_columns (x ∷ xs) [] e = absurd (cc)
by_columns (x ∷ xs) (y ∷ ys) e =
    let first : length x ≡ length y = cc in
    let rest : map length xs ≡ map length ys = cc in
    (λ i. key_cmp (encoded-cons x xs i) (encoded-cons y ys i))
    ∙ ap (λ (n : ℕ). key_cmp (to_le_bytes w32 (length x) ++ (x ++ encoded xs)) (to_le_bytes w32 n ++ (y ++ encoded ys))) (sym first)
    ∙ same_front (to_le_bytes w32 (length x)) (x ++ encoded xs) (y ++ encoded ys)
    ∙ fronts_first x y (encoded xs) (encoded ys) first
    ∙ ap (ordering_then (slice_cmp nat_cmp x y)) (by_columns xs ys rest)

-- the lengths that are left, one column at a time
pub lengths-start : (count : ℕ) (a b : List ℕ) → lengths_in (count - 0) a ≡ lengths_in (count - 0) b → lengths_in count a ≡ lengths_in count b
lengths-start count a b h =
    let e : count - 0 ≡ count = omega arith in
    rw e at h

pub lengths-end : (count at : ℕ) (a b : List ℕ) → count ≤ at → lengths_in (count - at) a ≡ lengths_in (count - at) b
lengths-end count at a b le =
    let e : count - at ≡ 0 = omega arith in
    rw e refl

pub lengths-more : (count at : ℕ) (a b x y more_a more_b : List ℕ) → at < count → x ≡ first_column a → more_a ≡ after_first_column a → y ≡ first_column b → more_b ≡ after_first_column b → length x ≡ length y
    → lengths_in (count - (at + 1)) more_a ≡ lengths_in (count - (at + 1)) more_b → lengths_in (count - at) a ≡ lengths_in (count - at) b
lengths-more count at a b x y more_a more_b lt is_x is_a is_y is_b first rest =
    let e : count - at ≡ suc (count - (at + 1)) = omega arith in
    let one : length (first_column a) ≡ length (first_column b) = ap (length {A = ℕ}) (sym is_x) ∙ first ∙ ap (length {A = ℕ}) is_y in
    let others : lengths_in (count - (at + 1)) (after_first_column a) ≡ lengths_in (count - (at + 1)) (after_first_column b) =
    ap (lengths_in (count - (at + 1))) (sym is_a) ∙ rest ∙ ap (lengths_in (count - (at + 1))) is_b in
    rw e (λ i. one i ∷ others i)

-- a key that is before another is not behind it by its columns
not_behind : (count : ℕ) (a b lengths : List ℕ) → encoded (columns_in count a) ≡ a → encoded (columns_in count b) ≡ b → lengths_in count a ≡ lengths → lengths_in count b ≡ lengths → key_cmp a b ≡ Less
    → is_lt (columns_cmp (columns_in count b) (columns_in count a)) ≡ false
not_behind count a b lengths read_a read_b alike_a alike_b less =
    let keys : key_cmp b a ≡ Greater = nat_list_cmp_total.antisymm b a ∙ ap ordering_reverse less in
    ap is_lt (sym (by_columns (columns_in count b) (columns_in count a) (alike_b ∙ sym alike_a)) ∙ (λ i. key_cmp (read_b i) (read_a i)) ∙ keys)

pub in_order : (count : ℕ) (groups : List Group) (refs : List GroupRef) (lengths : List ℕ) → IsStrictlySortedBy key_cmp (map (λ (r : GroupRef). r.key.now) refs) → All (λ (r : GroupRef). IsRead count (group_of groups r)) refs
    → All (λ (r : GroupRef). lengths_in count r.key.now ≡ lengths) refs → IsSortedBy (is_before count) refs
unfolding IsStrictlySortedBy
in_order count groups [] lengths rise read alike k d le lt = absurd (omega arith)
in_order count groups (a ∷ []) lengths rise read alike k d le lt = absurd (omega arith)
in_order count groups (a ∷ b ∷ refs) lengths rise read alike zero d le lt =
    not_behind count a.key.now b.key.now lengths (read 0 d (omega arith)) (read 1 d (omega arith)) (alike 0 d (omega arith)) (alike 1 d (omega arith)) rise.0.0
in_order count groups (a ∷ b ∷ refs) lengths rise read alike (suc k) d le lt =
    let step : suc k + 1 ≡ suc (k + 1) = omega arith in
    rw step (in_order count groups (b ∷ refs) lengths rise.1 (λ i d lt. read (suc i) d (omega arith)) (λ i d lt. alike (suc i) d (omega arith)) k d (omega arith) (omega arith))

-- what holds of all keys up to the last
pub all_alike : (count : ℕ) (refs : List GroupRef) (lengths : List ℕ) (n : ℕ) → length refs ≤ n → All (λ (r : GroupRef). lengths_in count r.key.now ≡ lengths) (take n refs) → (lengths : List ℕ) × All (λ (r : GroupRef). lengths_in count r.key.now ≡ lengths) refs
all_alike count refs lengths n all alike = (lengths, All-same (λ (r : GroupRef). lengths_in count r.key.now ≡ lengths) refs (take n refs) (sym (take_all n refs all)) alike)

-- the keys of groups as they lie
pub keys-refs : (groups : List Group) (refs : List GroupRef) → map (λ (g : Group). g.key) (map (group_of groups) refs) ≡ map (λ (r : GroupRef). r.key.now) refs
keys-refs groups [] = refl
keys-refs groups (r ∷ refs) = ap (λ (ks : List (List ℕ)). r.key.now ∷ ks) (keys-refs groups refs)

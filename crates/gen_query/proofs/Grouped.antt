-- The groups of the rows of some numbers: which there are, and how many rows and which sum each has.
use Rattle.std.proofs.Common.{◌≡◌, ◌∙◌, ◌<◌, ◌≤◌, ◌+◌, ◌*◌, ◌^◌, ◌+ℤ◌, ◌≤ℤ◌, neg_ℤ, ◌∷◌, [], ℕ, ℤ, pos, zero, suc, Bool, true, false, List, All, Contains, None, Some, bytes_eq, drop, filter, get_or, length, map, refl, sym, ap, subst, arith, inl, inr}
use Rattle.std.proofs.lemmas.Bool.{cases_Bool, ne_eqb}
use Rattle.std.proofs.lemmas.Int.{ints}
use Rattle.std.proofs.lemmas.List.{length-map}
use Rattle.std.proofs.lemmas.List.Elements.{All-cons, All-head, All-nil, All-tail}
use Rattle.std.proofs.lemmas.List.Sums.{sum_by-cons}
use Rattle.std.proofs.lemmas.Slice.Eq.{bytes_eq-Decides}
use Rattle.std.specs.FinMap as finite
use Rattle.std.specs.List.{AllByRecursion, IsDistinct, filter_map}
use Rattle.std.specs.Prelude.{◌==◌, if◌then◌else◌}
use Rattle.par_model.specs.Aggregate.{no_values, rows_of, state_of, state_of_rows, total, values_of}
use Rattle.par_model.specs.Number.{integer_of}
use Rattle.par_model.specs.Keep.{is_kept}
use Rattle.par_model.specs.Key.{encoded, key_of}
use Rattle.par_model.specs.declared.state.AggState.{AggState}
use Rattle.partial_agg.proofs.Ideal.{total-cons}
use Rattle.partial_agg.proofs.Keys.{encoded-one}
use Rattle.partial_agg.specs.Groups.{GroupsByKey, group_of}
use Rattle.partial_agg.specs.Listed.{group}
use Rattle.partial_agg.specs.declared.groups.Group.{Group}
use Rattle.gather_run.specs.Answers.{AreAllGroups}
use Rattle.gen_query.proofs.Adding.{all_count, all_sum, counts, part_count, part_sum, parts, parts_are_all, sums}
use Rattle.partial_agg.proofs.Entries.{All-found, Contains-found, Entry, IsDistinct-keys}
use Rattle.gen_query.proofs.NumberRows.{is_read, key_is, not_null, value_high, value_low}
use Rattle.gen_query.specs.Generator.{header, name_of, record_of, value_of}
use Rattle.gen_query.specs.Plan.{bound_gen}
use Rattle.gen_query.specs.Summary.{AreDifferent}
use Rattle.gen_query.specs.Totals as of

-- ---- lists

in_map : {A B : Type 0} (f : A → B) (xs : List A) (x : A) → Contains xs x → Contains (map f xs) (f x)
in_map {A = A} {B = B} f xs x has = by xs has.0 has.1 has.2
  where
    by : (xs : List A) (i : ℕ) → i < length xs → get_or xs i x ≡ x → Contains (map f xs) (f x)
    by [] i lt is = absurd (omega arith)
    by (y ∷ ys) zero lt is = (0, omega arith, ap f is)
    by (y ∷ ys) (suc i) lt is = let h = by ys i (omega arith) is in (suc h.0, omega (arith, h.1), h.2)

from_map : {A B : Type 0} (f : A → B) (xs : List A) (y : B) → Contains (map f xs) y → (x : A) × Contains xs x × (f x ≡ y)
from_map {A = A} {B = B} f xs y has = by xs has.0 has.1 has.2
  where
    by : (xs : List A) (i : ℕ) → i < length (map f xs) → get_or (map f xs) i y ≡ y → (x : A) × Contains xs x × (f x ≡ y)
    by [] i lt is = absurd (omega arith)
    by (x ∷ xs) zero lt is = (x, (0, omega arith, refl), is)
    by (x ∷ xs) (suc i) lt is = let h = by xs i (omega arith) is in (h.0, (suc h.1.0, omega (arith, h.1.1), h.1.2), h.2)

-- an element that passes, where a filter keeps one, and the other way round
kept_one : {X : Type 0} (p : X → Bool) (xs : List X) → 0 < length (filter p xs) → (x : X) × Contains xs x × (p x ≡ true)
kept_one p [] some = absurd (omega arith)
kept_one p (x ∷ xs) some = elim (cases_Bool (p x)) [
  | inl e ↦ (x, (0, omega arith, refl), e)
  | inr e ↦ let h = kept_one p xs (rw e at some) in (h.0, (suc h.1.0, omega (arith, h.1.1), h.1.2), h.2)
]

keeps_one : {X : Type 0} (p : X → Bool) (xs : List X) (i : ℕ) (x : X) → i < length xs → get_or xs i x ≡ x → p x ≡ true → 0 < length (filter p xs)
keeps_one p [] i x lt is passes = absurd (omega arith)
keeps_one p (y ∷ ys) zero x lt is passes = let e : p y ≡ true = ap p is ∙ passes in rw e (omega arith)
keeps_one p (y ∷ ys) (suc i) x lt is passes = elim (cases_Bool (p y)) [
  | inl e ↦ rw e (omega arith)
  | inr e ↦ rw e (keeps_one p ys i x (omega arith) is passes)
]

filter_short : {X : Type 0} (p : X → Bool) (xs : List X) → length (filter p xs) ≤ length xs
filter_short p [] = omega arith
filter_short p (x ∷ xs) = elim (cases_Bool (p x)) [
  | inl e ↦ rw e (omega (arith, filter_short p xs))
  | inr e ↦ rw e (omega (arith, filter_short p xs))
]

-- ---- the rows of a key

abbrev pub key : ℕ → List ℕ
key x = key_of bound_gen (record_of x)

abbrev pub mine : List ℕ → List ℕ → List ℕ
mine k xs = filter (λ (x : ℕ). bytes_eq (key x) k) xs

rows_mine : (k xs : List ℕ) → rows_of bound_gen (map record_of xs) k ≡ map record_of (mine k xs)
unfolding is_kept
rows_mine k [] = refl
rows_mine k (x ∷ xs) = elim (cases_Bool (bytes_eq (key x) k)) [
  | inl e ↦ rw e (ap (λ (t : List (List (List ℕ))). record_of x ∷ t) (rows_mine k xs))
  | inr e ↦ rw e (rows_mine k xs)
]

values_read : (xs : List ℕ) → filter_map integer_of (values_of 1 (map record_of xs)) ≡ map value_of xs
unfolding record_of
values_read [] = refl
values_read (x ∷ xs) = rw (not_null x) (rw (is_read x) (ap (λ (t : List ℤ). value_of x ∷ t) (values_read xs)))

state_rows : (k xs : List ℕ) → (state_of bound_gen (map record_of xs) k).rows ≡ length (mine k xs)
unfolding state_of_rows
state_rows k xs = ap (length {A = List (List ℕ)}) (rows_mine k xs) ∙ length-map (mine k xs) record_of

state_sum : (k xs : List ℕ) → (get_or (state_of bound_gen (map record_of xs) k).slots 1 no_values).sum ≡ total (map value_of (mine k xs))
unfolding state_of_rows
state_sum k xs =
    ap (λ (rows : List (List (List ℕ))). total (filter_map integer_of (values_of 1 rows))) (rows_mine k xs) ∙ ap total (values_read (mine k xs))

-- ---- the entries of the map

chosen : {A : Type 0} (b : Bool) (x y : A) → (if b then None else Some x) ≡ Some y → (b ≡ false) × (y ≡ x)
chosen true x y h = cc
chosen false x y h = (refl, cc)

some_from : {A : Type 0} (xs : List A) → (length xs == 0) ≡ false → 0 < length xs
some_from [] h = cc
some_from (x ∷ xs) h = omega arith

-- what an entry has: how many rows of the numbers, at least one, and the sum of their values
record IsEntry (xs : List ℕ) (e : Entry) : Type 0 where
  count : of.rows_of (group e) ≡ length (mine e.0 xs)
  sum_is : of.sum_of (group e) ≡ total (map value_of (mine e.0 xs))
  some : 0 < length (mine e.0 xs)

entry_is : (xs : List ℕ) (e : Entry) → group_of bound_gen (map record_of xs) e.0 ≡ Some e.1 → IsEntry xs e
entry_is xs e is =
    let h = chosen _ (state_of bound_gen (map record_of xs) e.0) e.1 is in
    let there = some_from (rows_of bound_gen (map record_of xs) e.0) h.0 in
    record {
      count = ap (λ (s : AggState). s.rows) h.1 ∙ state_rows e.0 xs;
      sum_is = ap (λ (s : AggState). (get_or s.slots 1 no_values).sum) h.1 ∙ state_sum e.0 xs;
      some = omega (arith, there, ap (length {A = List (List ℕ)}) (rows_mine e.0 xs), length-map (mine e.0 xs) record_of);
    }

-- ---- all entries together

abbrev first : Entry → List ℕ
first e = e.0

rows_added : (xs : List ℕ) (es : List Entry) → All (IsEntry xs) es → of.all_rows (map group es) ≡ parts 0 (λ a b. a + b) counts key (λ _. 1) (map first es) xs
rows_added xs [] h = refl
rows_added xs (e ∷ es) h =
    let one = (All-head (IsEntry xs) e es h).count ∙ sym (part_count key (λ _. pos 0) e.0 xs) in
    let rest = rows_added xs es (All-tail (IsEntry xs) e es h) in
    sum_by-cons of.rows_of (group e) (map group es) ∙ (λ i. one i + rest i)

sums_added : (xs : List ℕ) (es : List Entry) → All (IsEntry xs) es → of.all_sums (map group es) ≡ parts (pos 0) (λ a b. a +ℤ b) sums key value_of (map first es) xs
sums_added xs [] h = refl
sums_added xs (e ∷ es) h =
    let one = (All-head (IsEntry xs) e es h).sum_is ∙ sym (part_sum key value_of e.0 xs) in
    let rest = sums_added xs es (All-tail (IsEntry xs) e es h) in
    total-cons (of.sum_of (group e)) (map of.sum_of (map group es)) ∙ (λ i. one i +ℤ rest i)

few_added : (xs : List ℕ) (es : List Entry) → All (IsEntry xs) es → length es ≤ of.all_rows (map group es)
few_added xs [] h = omega arith
few_added xs (e ∷ es) h =
    let one = All-head (IsEntry xs) e es h in
    let all : of.all_rows (map group (e ∷ es)) ≡ of.rows_of (group e) + of.all_rows (map group es) = sum_by-cons of.rows_of (group e) (map group es) in
    omega (arith, all, one.count, one.some, few_added xs es (All-tail (IsEntry xs) e es h))

-- ---- the sizes

sum_low : (xs : List ℕ) → neg_ℤ (pos (1000 * length xs)) ≤ℤ total (map value_of xs)
sum_low [] = omega (arith, ints)
sum_low (x ∷ xs) =
    let all : total (map value_of (x ∷ xs)) ≡ value_of x +ℤ total (map value_of xs) = total-cons (value_of x) (map value_of xs) in
    let one = value_low x in
    let rest = sum_low xs in
    omega (arith, ints, all, one, rest)

sum_high : (xs : List ℕ) → total (map value_of xs) ≤ℤ pos (1000 * length xs)
sum_high [] = omega (arith, ints)
sum_high (x ∷ xs) =
    let all : total (map value_of (x ∷ xs)) ≡ value_of x +ℤ total (map value_of xs) = total-cons (value_of x) (map value_of xs) in
    let one = value_high x in
    let rest = sum_high xs in
    omega (arith, ints, all, one, rest)

all_small : (xs : List ℕ) (es : List Entry) → length xs ≤ 4194304 → All (IsEntry xs) es → All of.IsSmall (map group es)
all_small xs [] few h = All-nil of.IsSmall
all_small xs (e ∷ es) few h =
    let mine' = All-head (IsEntry xs) e es h in
    let short = filter_short (λ (x : ℕ). bytes_eq (key x) e.0) xs in
    let small : of.IsSmall (group e) = record {
      rows = omega (arith, mine'.count, short, few);
      low = omega (arith, ints, mine'.sum_is, sum_low (mine e.0 xs), short, few);
      high = omega (arith, ints, mine'.sum_is, sum_high (mine e.0 xs), short, few);
    } in
    All-cons of.IsSmall (group e) (map group es) small (all_small xs es few (All-tail (IsEntry xs) e es h))

-- ---- the names

abbrev name_in : List ℕ → List ℕ
name_in k = drop 4 k

name_key : (x : ℕ) → name_in (key x) ≡ name_of x
name_key x = ap name_in (key_is x ∙ encoded-one (name_of x))

-- a key is that of a number
abbrev IsKey : List ℕ → List ℕ → Type 0
IsKey xs k = (x : ℕ) × Contains xs x × (key x ≡ k)

key_back : (xs k : List ℕ) → IsKey xs k → encoded (name_in k ∷ []) ≡ k
key_back xs k is = ap (λ (n : List ℕ). encoded (n ∷ [])) (ap name_in (sym is.2) ∙ name_key is.0) ∙ sym (key_is is.0) ∙ is.2

differ : (xs j k : List ℕ) → IsKey xs j → IsKey xs k → bytes_eq j k ≡ false → bytes_eq (name_in j) (name_in k) ≡ false
differ xs j k j_is k_is apart = elim (cases_Bool (bytes_eq (name_in j) (name_in k))) [
  | inl e ↦
      let same : j ≡ k = sym (key_back xs j j_is) ∙ ap (λ (n : List ℕ). encoded (n ∷ [])) ((bytes_eq-Decides (name_in j) (name_in k)).0 e) ∙ key_back xs k k_is in
      let no : true ≡ false = sym ((bytes_eq-Decides j k).1 same) ∙ apart in cc
  | inr e ↦ e
]

differ_all : (xs j : List ℕ) (ks : List (List ℕ)) → IsKey xs j → All (IsKey xs) ks → AllByRecursion (λ (y : List ℕ). bytes_eq j y ≡ false) ks → AllByRecursion (λ (y : List ℕ). bytes_eq (name_in j) y ≡ false) (map name_in ks)
differ_all xs j [] j_is h apart = tt
differ_all xs j (k ∷ ks) j_is h apart =
    (differ xs j k j_is (All-head (IsKey xs) k ks h) apart.0, differ_all xs j ks j_is (All-tail (IsKey xs) k ks h) apart.1)

names_apart : (xs : List ℕ) (ks : List (List ℕ)) → All (IsKey xs) ks → IsDistinct bytes_eq ks → IsDistinct bytes_eq (map name_in ks)
unfolding IsDistinct
names_apart xs [] h apart = tt
names_apart xs (k ∷ ks) h apart =
    (differ_all xs k ks (All-head (IsKey xs) k ks h) (All-tail (IsKey xs) k ks h) apart.0, names_apart xs ks (All-tail (IsKey xs) k ks h) apart.1)

entry_key : (xs : List ℕ) (e : Entry) → IsEntry xs e → IsKey xs e.0
entry_key xs e is =
    let h = kept_one (λ (x : ℕ). bytes_eq (key x) e.0) xs is.some in
    (h.0, h.1, (bytes_eq-Decides (key h.0) e.0).0 h.2)

entry_keys : (xs : List ℕ) (es : List Entry) → All (IsEntry xs) es → All (IsKey xs) (map first es)
entry_keys xs [] h = All-nil (IsKey xs)
entry_keys xs (e ∷ es) h =
    All-cons (IsKey xs) e.0 (map first es) (entry_key xs e (All-head (IsEntry xs) e es h)) (entry_keys xs es (All-tail (IsEntry xs) e es h))

names_same : (xs : List ℕ) (ks : List (List ℕ)) → All (IsKey xs) ks → All (λ (x : ℕ). Contains ks (key x)) xs → (name : List ℕ)
    → (Contains (map name_in ks) name → Contains (map name_of xs) name) × (Contains (map name_of xs) name → Contains (map name_in ks) name)
names_same xs ks are has name = (there, back)
  where
    there : Contains (map name_in ks) name → Contains (map name_of xs) name
    there h =
        let k = from_map name_in ks name h in
        let k_is : IsKey xs k.0 = subst (IsKey xs) k.1.2 (are k.1.0 k.0 k.1.1) in
        let same : name_of k_is.0 ≡ name = sym (name_key k_is.0) ∙ ap name_in k_is.2 ∙ k.2 in
        subst (Contains (map name_of xs)) same (in_map name_of xs k_is.0 k_is.1)

    back : Contains (map name_of xs) name → Contains (map name_in ks) name
    back h =
        let x = from_map name_of xs name h in
        let x_has : Contains ks (key x.0) = subst (λ (y : ℕ). Contains ks (key y)) x.1.2 (has x.1.0 x.0 x.1.1) in
        subst (Contains (map name_in ks)) (name_key x.0 ∙ x.2) (in_map name_in ks (key x.0) x_has)

-- ---- what is known of the groups of the rows of some numbers

pub record AreOf (xs : List ℕ) (groups : List Group) : Type 0 where
  pub few : length groups ≤ 2 ^ 23
  pub small : All of.IsSmall groups
  pub rows : of.all_rows groups ≡ length xs
  pub sums_are : of.all_sums groups ≡ total (map value_of xs)
  pub names : List (List ℕ)
  pub count : length names ≡ length groups
  pub different : AreDifferent (map name_of xs) names

module _ (xs : List ℕ) (whole : GroupsByKey) (each : (k : List ℕ) → finite.get whole k ≡ group_of bound_gen (map record_of xs) k) where
  entries_are : All (IsEntry xs) (finite.entries whole)
  entries_are k d lt =
      let e = get_or (finite.entries whole) k d in
      entry_is xs e (sym (each e.0) ∙ All-found whole k d lt)

  -- the key of each number is there
  covered : All (λ (x : ℕ). Contains (map first (finite.entries whole)) (key x)) xs
  covered i d lt =
      let x = get_or xs i d in
      let some = keeps_one (λ (y : ℕ). bytes_eq (key y) (key x)) xs i x lt (at xs i d lt) ((bytes_eq-Decides (key x) (key x)).1 refl) in
      let rows = rows_of bound_gen (map record_of xs) (key x) in
      let long : 0 < length rows = omega (arith, some, ap (length {A = List (List ℕ)}) (rows_mine (key x) xs), length-map (mine (key x) xs) record_of) in
      let not_none : (length rows == 0) ≡ false = ne_eqb (length rows) 0 (λ z. omega (arith, z, long)) in
      let found : finite.get whole (key x) ≡ Some (state_of bound_gen (map record_of xs) (key x)) =
      each (key x) ∙ ap (λ (b : Bool). if b then None else Some (state_of bound_gen (map record_of xs) (key x))) not_none in
      in_map first (finite.entries whole) (key x, state_of bound_gen (map record_of xs) (key x)) (Contains-found whole (key x) _ found)
    where
      at : (ys : List ℕ) (i d : ℕ) → i < length ys → get_or ys i (get_or ys i d) ≡ get_or ys i d
      at [] i d lt = absurd (omega arith)
      at (y ∷ ys) zero d lt = refl
      at (y ∷ ys) (suc i) d lt = at ys i d (omega arith)

  grouped : length xs ≤ 4194304 → AreOf xs (map group (finite.entries whole))
  grouped few =
      let es = finite.entries whole in
      let ks = map first es in
      let apart : IsDistinct bytes_eq ks = IsDistinct-keys whole in
      let all_rows = rows_added xs es entries_are ∙ parts_are_all 0 (λ a b. a + b) counts key (λ _. 1) ks xs apart covered ∙ all_count key (λ _. pos 0) xs in
      let keys_are = entry_keys xs es entries_are in
      record {
        few = omega (arith, few_added xs es entries_are, all_rows, few, length-map es group);
        small = all_small xs es few entries_are;
        rows = all_rows;
        sums_are = sums_added xs es entries_are ∙ parts_are_all (pos 0) (λ a b. a +ℤ b) sums key value_of ks xs apart covered ∙ all_sum key value_of xs;
        names = map name_in ks;
        count = length-map ks name_in ∙ length-map es first ∙ sym (length-map es group);
        different = record { apart = names_apart xs ks keys_are apart; same = names_same xs ks keys_are covered };
      }

pub groups_are : (xs : List ℕ) (groups : List Group) → AreAllGroups bound_gen (header ∷ map record_of xs) groups → length xs ≤ 4194304 → AreOf xs groups
groups_are xs groups are few = subst (AreOf xs) (sym are.in_order) (grouped xs are.whole are.are.each few)

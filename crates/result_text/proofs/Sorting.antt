-- Groups that are sorted by their columns are the lines of a table.
use Rattle.std.proofs.Common.{◌≡◌, ◌<◌, ◌≤◌, ◌+◌, ◌∷◌, ◌∙◌, [], ap, sym, refl, subst, arith, false, bytes_eq, length, ℕ, List, All, get_or, map}
use Rattle.std.proofs.lemmas.List.{get_or-map, length-map}
use Rattle.std.proofs.lemmas.List.Elements.{All-head, All-tail}
use Rattle.std.proofs.lemmas.List.Sorted.{All-permutation, IsPermutation-map}
use Rattle.std.proofs.lemmas.Map.Keys.{IsDistinct-IsPermutation, apart_from_distinct, sorted_from_all_adjacent}
use Rattle.std.proofs.lemmas.Slice.Eq.{bytes_eq-Decides}
use Rattle.std.specs.Cmp.{IsTotalOrder, both_ways}
use Rattle.std.specs.FinMap.{nat_cmp-IsAntisymmetric, slice_cmp-IsAntisymmetric}
use Rattle.std.specs.List.{IsDistinct}
use Rattle.std.specs.List.Sorted.{IsPermutation, IsSortedBy, IsStrictlySortedBy}
use Rattle.std.specs.Ordering.{is_lt, ordering_reverse}
use Rattle.std.specs.declared.cmp.Ordering.{Ordering}
use Rattle.std.specs.declared.cmp.Ordering.TheVariants.{Equal, Greater, Less}
use Rattle.par_model.specs.Key.{encoded}
use Rattle.par_model.specs.Named.{NamedPlan}
use Rattle.par_model.specs.Plan.{Plan}
use Rattle.par_model.specs.Table.{columns_cmp, table_header}
use Rattle.partial_agg.specs.declared.groups.Group.{Group}
use Rattle.result_text.specs.KeyColumns.{columns_in}
use Rattle.result_text.specs.GroupOrder.{group_of, is_before, line_of, state_in}
use Rattle.result_text.specs.Printable.{ArePrintable}
use Rattle.result_text.specs.Text.{IsGroupsTable, Line, group_of_line, line_record, shown}
use Rattle.result_text.specs.declared.order.GroupRef.{GroupRef}
use Rattle.result_text.proofs.Columns.{columns_total}
use Rattle.result_text.proofs.KeyColumns.{encoded-columns_in}

-- of an order that is total: what is not before another and not equal to it comes after it
after : {K : Type 0} (R : K → K → Ordering) → IsTotalOrder R → (x y : K) → is_lt (R y x) ≡ false → (R x y ≡ Equal → ⊥) → R x y ≡ Less
after R total x y not_before other = by (R x y) (R y x) refl refl (total.antisymm x y)
  where
    by : (r s : Ordering) → R x y ≡ r → R y x ≡ s → R x y ≡ ordering_reverse (R y x) → R x y ≡ Less
    by Less s e f h = e
    by Equal s e f h = absurd (other e)
    by Greater Less e f h = cc (rw f at not_before)
    by Greater Equal e f h = cc (rw f at h)
    by Greater Greater e f h = rw f at h

-- columns that tie are equal
same_columns : (a b : List (List ℕ)) → columns_cmp a b ≡ Equal → a ≡ b
same_columns = slice_cmp-IsAntisymmetric (slice_cmp-IsAntisymmetric nat_cmp-IsAntisymmetric)

-- a fact of each group, where the groups lie
pub all_refs : (P : Group → Type 0) (groups : List Group) (refs : List GroupRef) → IsPermutation groups (map (group_of groups) refs) → All P groups → All (λ (r : GroupRef). P (group_of groups r)) refs
all_refs P groups refs same all k d lt =
    let long : k < length (map (group_of groups) refs) = omega (arith, length-map refs (group_of groups)) in
    subst P (get_or-map (group_of groups) refs k d (group_of groups d) lt) (All-permutation P groups (map (group_of groups) refs) same all k (group_of groups d) long)

-- the key of a group is the encoding of the columns that are read of it
abbrev pub IsRead : ℕ → Group → Type 0
IsRead count group = encoded (columns_in count group.key) ≡ group.key

pub all_read : (plan : Plan) (groups : List Group) → ArePrintable plan groups → All (λ (group : Group). length group.key ≤ 248) groups → All (IsRead (length plan.groups)) groups
all_read plan groups printable short k d lt = encoded-columns_in (length plan.groups) (get_or groups k d).key (printable.keys k d lt) (short k d lt)

-- so the lines are those of the groups
pub lines-groups : (count : ℕ) (groups : List Group) (refs : List GroupRef) → All (λ (r : GroupRef). IsRead count (group_of groups r)) refs → map group_of_line (map (line_of count groups) refs) ≡ map (group_of groups) refs
lines-groups count groups [] read = refl
lines-groups count groups (r ∷ refs) read = λ i.
    record { key = All-head (λ (r : GroupRef). IsRead count (group_of groups r)) r refs read i; state = state_in groups r } ∷ lines-groups count groups refs (All-tail (λ (r : GroupRef). IsRead count (group_of groups r)) r refs read) i

-- the columns rise, since no two keys are equal
same_key : (count : ℕ) (groups : List Group) (a b : GroupRef) → IsRead count (group_of groups a) → IsRead count (group_of groups b) → columns_in count a.key.now ≡ columns_in count b.key.now → a.key.now ≡ b.key.now
same_key count groups a b read_a read_b is = sym read_a ∙ ap encoded is ∙ read_b

false-from : (a b : List ℕ) → a ≡ b → bytes_eq a b ≡ false → ⊥
false-from a b is apart = let yes = (bytes_eq-Decides a b).1 is in cc

rises-at : (count : ℕ) (groups : List Group) (a b : GroupRef) → IsRead count (group_of groups a) → IsRead count (group_of groups b) → bytes_eq a.key.now b.key.now ≡ false → is_before count b a ≡ false → columns_cmp (columns_in count a.key.now) (columns_in count b.key.now) ≡ Less
rises-at count groups a b read_a read_b apart not_before =
    after columns_cmp columns_total (columns_in count a.key.now) (columns_in count b.key.now) not_before (λ tie. false-from a.key.now b.key.now (same_key count groups a b read_a read_b (same_columns _ _ tie)) apart)

abbrev columns_of_ref : ℕ → GroupRef → List (List ℕ)
columns_of_ref count r = columns_in count r.key.now

abbrev key_of_group : Group → List ℕ
key_of_group group = group.key

key_at : (groups : List Group) (refs : List GroupRef) (k : ℕ) (d : GroupRef) → k < length refs → get_or (map key_of_group (map (group_of groups) refs)) k d.key.now ≡ (get_or refs k d).key.now
key_at groups refs k d lt =
    get_or-map key_of_group (map (group_of groups) refs) k (group_of groups d) d.key.now (omega (arith, length-map refs (group_of groups)))
    ∙ ap key_of_group (get_or-map (group_of groups) refs k d (group_of groups d) lt)

columns_at : (count : ℕ) (groups : List Group) (refs : List GroupRef) (k : ℕ) (d : GroupRef) → k < length refs → get_or (map (λ (l : Line). l.0) (map (line_of count groups) refs)) k (columns_of_ref count d) ≡ columns_of_ref count (get_or refs k d)
columns_at count groups refs k d lt =
    get_or-map (λ (l : Line). l.0) (map (line_of count groups) refs) k (line_of count groups d) (columns_of_ref count d) (omega (arith, length-map refs (line_of count groups)))
    ∙ ap (λ (l : Line). l.0) (get_or-map (line_of count groups) refs k d (line_of count groups d) lt)

flips : (a b : List ℕ) → bytes_eq a b ≡ bytes_eq b a
flips a b = both_ways (bytes_eq a b) (bytes_eq b a) (λ e. (bytes_eq-Decides b a).1 (sym ((bytes_eq-Decides a b).0 e))) (λ e. (bytes_eq-Decides a b).1 (sym ((bytes_eq-Decides b a).0 e)))

rising-from : (count : ℕ) (groups : List Group) (refs : List GroupRef) (d : GroupRef) → IsDistinct bytes_eq (map key_of_group groups) → IsPermutation groups (map (group_of groups) refs)
    → All (λ (r : GroupRef). IsRead count (group_of groups r)) refs → IsSortedBy (is_before count) refs → IsStrictlySortedBy columns_cmp (map (λ (l : Line). l.0) (map (line_of count groups) refs))
rising-from count groups refs d different same read sorted =
    let keys = IsDistinct-IsPermutation bytes_eq flips (map key_of_group groups) (map key_of_group (map (group_of groups) refs)) (IsPermutation-map key_of_group groups (map (group_of groups) refs) same) different in
    let long : length (map (λ (l : Line). l.0) (map (line_of count groups) refs)) ≡ length refs = omega (arith, length-map (map (line_of count groups) refs) (λ (l : Line). l.0), length-map refs (line_of count groups)) in
    let long_keys : length (map key_of_group (map (group_of groups) refs)) ≡ length refs = omega (arith, length-map (map (group_of groups) refs) key_of_group, length-map refs (group_of groups)) in
    sorted_from_all_adjacent columns_total _ (columns_of_ref count d) (λ k lt.
    let here : k < length refs = omega arith in
    let next : k + 1 < length refs = omega arith in
    let apart = apart_from_distinct bytes_eq (map key_of_group (map (group_of groups) refs)) k (k + 1) d.key.now keys (omega arith) (omega arith) in
    let keys_apart : bytes_eq (get_or refs k d).key.now (get_or refs (k + 1) d).key.now ≡ false = rw (key_at groups refs k d here, key_at groups refs (k + 1) d next) at apart in
    rw (columns_at count groups refs k d here, columns_at count groups refs (k + 1) d next)
    (rises-at count groups (get_or refs k d) (get_or refs (k + 1) d) (read k d here) (read (k + 1) d next) keys_apart (sorted k d (omega arith) next)))

pub rising : (count : ℕ) (groups : List Group) (refs : List GroupRef) → IsDistinct bytes_eq (map key_of_group groups) → IsPermutation groups (map (group_of groups) refs)
    → All (λ (r : GroupRef). IsRead count (group_of groups r)) refs → IsSortedBy (is_before count) refs → IsStrictlySortedBy columns_cmp (map (λ (l : Line). l.0) (map (line_of count groups) refs))
unfolding IsStrictlySortedBy
rising count groups [] different same read sorted = tt
rising count groups (r ∷ refs) different same read sorted = rising-from count groups (r ∷ refs) r different same read sorted

-- the table of the groups
pub groups_table : (names : NamedPlan) (plan : Plan) (groups : List Group) (refs : List GroupRef) → ArePrintable plan groups → All (λ (group : Group). length group.key ≤ 248) groups
    → IsPermutation groups (map (group_of groups) refs) → IsSortedBy (is_before (length plan.groups)) refs
    → IsGroupsTable names plan groups (table_header names ∷ map (line_record plan) (shown plan (map (line_of (length plan.groups) groups) refs)))
groups_table names plan groups refs printable short same sorted =
    let count = length plan.groups in
    let read = all_refs (IsRead count) groups refs same (all_read plan groups printable short) in
    record {
      lines = map (line_of count groups) refs;
      rising = rising count groups refs printable.different same read sorted;
      same = subst (IsPermutation groups) (sym (lines-groups count groups refs read)) same;
      is = refl;
    }

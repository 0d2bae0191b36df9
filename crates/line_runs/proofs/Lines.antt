-- The run of a map, and the lines of sorted entries.
use Rattle.std.proofs.Common.{◌≡◌, ◌<◌, ◌≤◌, ◌+◌, ◌++◌, ◌∷◌, ◌∙◌, [], ap, sym, refl, subst, arith, Bool, bytes_eq, length, ℕ, zero, suc, List, All, get_or, map, set}
use Rattle.std.proofs.lemmas.List.{get_or-map, length-map}
use Rattle.std.proofs.lemmas.List.Elements.{All-head, All-tail}
use Rattle.std.proofs.lemmas.List.Sorted.{All-permutation, IsPermutation-keeps, IsPermutation-map, IsPermutation-refl, IsPermutation-swap, IsPermutation-trans}
use Rattle.std.proofs.lemmas.Map.Keys.{IsDistinct-IsPermutation}
use Rattle.std.proofs.lemmas.Simd.{map-map}
use Rattle.std.specs.List.{IsDistinct, concat, swap}
use Rattle.std.specs.List.Sorted.{IsPermutation, IsSortedBy, IsStrictlySortedBy}
use Rattle.std.specs.Ordering.{is_lt}
use Rattle.par_model.specs.Plan.{Plan}
use Rattle.par_model.specs.Table.{columns_cmp, table_text}
use Rattle.partial_agg.specs.declared.groups.Group.{Group}
use Rattle.result_text.specs.GroupOrder.{group_of, is_before, line_of as line_at}
use Rattle.result_text.specs.KeyColumns.{columns_in}
use Rattle.result_text.specs.Printable.{ArePrintable, IsKeyOf}
use Rattle.result_text.specs.Text.{AreLinesOf, Line, group_of_line, line_record}
use Rattle.result_text.specs.declared.order.GroupRef.{GroupRef}
use Rattle.result_text.proofs.KeyColumns.{encoded-columns_in}
use Rattle.result_text.proofs.Sorting.{all_read, all_refs, rising, IsRead}
use Rattle.result_text.proofs.Tables.{table_text-cons, table_text-nil}
use Rattle.line_runs.specs.Entries.{Entry, comes_before, entry_of, no_entry}
use Rattle.line_runs.specs.Runs.{IsRunOf}
use Rattle.line_runs.proofs.Strict.{flips, rising_by}

-- ---- the run of a map

-- the columns of the groups as the lines have them, and as the entries
columns_line : (count : ℕ) (groups : List Group) (refs : List GroupRef) → map (λ (l : Line). l.0) (map (line_at count groups) refs) ≡ map (λ (r : GroupRef). columns_in count r.key.now) refs
columns_line count groups refs = map-map (λ (l : Line). l.0) (line_at count groups) refs

columns_entry : (plan : Plan) (count : ℕ) (groups : List Group) (refs : List GroupRef) → map (λ (e : Entry). columns_in count e.0) (map (entry_of plan) (map (group_of groups) refs)) ≡ map (λ (r : GroupRef). columns_in count r.key.now) refs
columns_entry plan count groups refs = map-map (λ (e : Entry). columns_in count e.0) (entry_of plan) (map (group_of groups) refs) ∙ map-map (λ (g : Group). columns_in count g.key) (group_of groups) refs

pub run_of : (plan : Plan) (own groups : List Group) (refs : List GroupRef) (run : List Entry) → groups ≡ own → ArePrintable plan groups → All (λ (g : Group). length g.key ≤ 248) groups
    → IsPermutation groups (map (group_of groups) refs) → IsSortedBy (is_before (length plan.groups)) refs → run ≡ map (entry_of plan) (map (group_of groups) refs) → IsRunOf plan own run
run_of plan own groups refs run same printable short moved sorted is =
    let count = length plan.groups in
    let read = all_refs (IsRead count) groups refs moved (all_read plan groups printable short) in
    let rise = rising count groups refs printable.different moved read sorted in
    subst (λ (gs : List Group). IsRunOf plan gs run) same (record {
      short = short;
      same = subst (IsPermutation (map (entry_of plan) groups)) (sym is) (IsPermutation-map (entry_of plan) groups (map (group_of groups) refs) moved);
      rises = subst (IsStrictlySortedBy columns_cmp) (columns_line count groups refs ∙ sym (columns_entry plan count groups refs) ∙ ap (map (λ (e : Entry). columns_in count e.0)) (sym is)) rise;
    })

-- ---- what a permutation of images is of

pub record Moved {X Y : Type 0} (f : X → Y) (xs : List X) (ys : List Y) : Type 0 where
  pub moved : List X
  pub same : IsPermutation xs moved
  pub is : ys ≡ map f moved

map_set : {X Y : Type 0} (f : X → Y) (xs : List X) (i : ℕ) (a : X) → map f (set xs i a) ≡ set (map f xs) i (f a)
map_set f [] i a = refl
map_set f (x ∷ xs) zero a = refl
map_set f (x ∷ xs) (suc i) a = ap (λ l. f x ∷ l) (map_set f xs i a)

map_swap : {X Y : Type 0} (f : X → Y) (xs : List X) (i j : ℕ) → i < length xs → j < length xs → map f (swap xs i j) ≡ swap (map f xs) i j
map_swap f [] i j h k = absurd (omega (arith, h))
map_swap f (x ∷ xs) i j h k =
    let all = x ∷ xs in
    let a = get_or all j x in
    let b = get_or all i x in
    let long : length (map f all) ≡ length all = length-map all f in
    map_set f (set all i a) j b ∙ ap (λ l. set l j (f b)) (map_set f all i a)
    ∙ (λ n. set (set (map f all) i (sym (get_or-map f all j x (f x) k) n)) j (sym (get_or-map f all i x (f x) h) n))

pub moved_back : {X Y : Type 0} (f : X → Y) (xs : List X) (ys : List Y) → IsPermutation (map f xs) ys → Moved f xs ys
moved_back {X = X} {Y = Y} f xs ys same = IsPermutation-keeps (map f xs) (Moved f xs) (record { moved = xs; same = IsPermutation-refl xs; is = refl }) step ys same
  where
    step : (l : List Y) (i j : ℕ) → i < length l → j < length l → Moved f xs l → Moved f xs (swap l i j)
    step l i j h k m =
        let long : length l ≡ length m.moved = ap length m.is ∙ length-map m.moved f in
        let h' : i < length m.moved = omega (arith, h, long) in
        let k' : j < length m.moved = omega (arith, k, long) in
        record {
          moved = swap m.moved i j;
          same = IsPermutation-trans xs m.moved (swap m.moved i j) m.same (IsPermutation-swap m.moved (swap m.moved i j) i j h' k' refl);
          is = ap (λ ys. swap ys i j) m.is ∙ sym (map_swap f m.moved i j h' k');
        }

-- ---- groups in the order of their columns

abbrev pub key_of_group : Group → List ℕ
key_of_group group = group.key

abbrev columns_of_group : ℕ → Group → List (List ℕ)
columns_of_group count group = columns_in count group.key

-- whether a group comes before another
abbrev group_before : ℕ → Group → Group → Bool
group_before count a b = is_lt (columns_cmp (columns_of_group count a) (columns_of_group count b))

-- ---- the lines of sorted entries

abbrev line_of_group : ℕ → Group → Line
line_of_group count g = (columns_in count g.key, g.state)

lines_groups : (count : ℕ) (groups : List Group) → All (IsRead count) groups → map group_of_line (map (line_of_group count) groups) ≡ groups
lines_groups count [] read = refl
lines_groups count (g ∷ groups) read = λ i. record { key = All-head (IsRead count) g groups read i; state = g.state } ∷ lines_groups count groups (All-tail (IsRead count) g groups read) i

text_is : (plan : Plan) (groups : List Group) → concat (map (λ (e : Entry). e.1) (map (entry_of plan) groups)) ≡ table_text (map (line_record plan) (map (line_of_group (length plan.groups)) groups))
text_is plan [] = sym table_text-nil
text_is plan (g ∷ groups) =
    let count = length plan.groups in
    ap (λ (t : List ℕ). (entry_of plan g).1 ++ t) (text_is plan groups) ∙ sym (table_text-cons (line_record plan (line_of_group count g)) (map (line_record plan) (map (line_of_group count) groups)))

sorted_groups : (plan : Plan) (count : ℕ) (groups : List Group) → IsSortedBy (comes_before count) (map (entry_of plan) groups) → IsSortedBy (group_before count) groups
sorted_groups plan count groups sorted = λ k d low lt.
    let f = entry_of plan in
    let long : length (map f groups) ≡ length groups = length-map groups f in
    (λ i. comes_before count (sym (get_or-map f groups (k + 1) d no_entry lt) i) (sym (get_or-map f groups k d no_entry (omega (arith, lt))) i)) ∙ sorted k no_entry low (omega (arith, lt, long))

-- entries of some groups that are sorted are their lines
pub sorted_lines : (plan : Plan) (groups : List Group) (entries : List Entry) (text : List ℕ) → All (λ (g : Group). length g.key ≤ 248) groups → All (λ (g : Group). IsKeyOf (length plan.groups) g.key) groups
    → IsDistinct bytes_eq (map key_of_group groups) → IsPermutation (map (entry_of plan) groups) entries → IsSortedBy (comes_before (length plan.groups)) entries → text ≡ concat (map (λ (e : Entry). e.1) entries)
    → AreLinesOf plan groups text
sorted_lines plan groups entries text short keys different same sorted is =
    let count = length plan.groups in
    let m = moved_back (entry_of plan) groups entries same in
    let news = m.moved in
    let read_all : All (IsRead count) groups = λ k d lt. encoded-columns_in count (get_or groups k d).key (keys k d lt) (short k d lt) in
    let read : All (IsRead count) news = All-permutation (IsRead count) groups news m.same read_all in
    let apart = IsDistinct-IsPermutation bytes_eq flips (map key_of_group groups) (map key_of_group news) (IsPermutation-map key_of_group groups news m.same) different in
    let order = sorted_groups plan count news (subst (IsSortedBy (comes_before count)) m.is sorted) in
    record {
      lines = map (line_of_group count) news;
      short = short;
      rising = subst (IsStrictlySortedBy columns_cmp) (sym (map-map (λ (l : Line). l.0) (line_of_group count) news)) (rising_by key_of_group count news apart read order);
      same = subst (IsPermutation groups) (sym (lines_groups count news read)) m.same;
      is = is ∙ ap (λ (es : List Entry). concat (map (λ (e : Entry). e.1) es)) m.is ∙ text_is plan news;
    }

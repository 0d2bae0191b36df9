-- The text of the groups of some rows answers the plan over these rows.
use Rattle.std.proofs.Common.{◌≡◌, ◌<◌, ◌≤◌, ◌==◌, ◌++◌, ◌∷◌, ◌∙◌, [], ap, sym, refl, subst, arith, Bool, true, false, ℕ, zero, suc, List, All, Contains, Some, bytes_eq, filter, length, get_or, map}
use Rattle.std.proofs.Math.Dec.{eqb-suc-zero}
use Rattle.std.proofs.lemmas.Bool.{eqb-true}
use Rattle.std.proofs.lemmas.List.{get_or-map, length-map}
use Rattle.std.proofs.lemmas.List.Elements.{All-cons, All-contains, All-head, All-tail}
use Rattle.std.proofs.lemmas.List.Sorted.{All-permutation, Contains-permutation}
use Rattle.std.specs.FinMap as finite
use Rattle.std.specs.List.Sorted.{IsPermutation, IsStrictlySortedBy}
use Rattle.par_model.specs.Aggregate.{rows_of, state_of, state_of_rows}
use Rattle.par_model.specs.Keep.{is_kept}
use Rattle.par_model.specs.Key.{columns_of, encoded, key_of}
use Rattle.par_model.specs.Named.{NamedPlan, bound_plan}
use Rattle.par_model.specs.Outcome.{IsAnswer}
use Rattle.par_model.specs.Plan.{Plan}
use Rattle.par_model.specs.Record.{field_of}
use Rattle.par_model.specs.Table.{IsDistinctSorted, IsTable, columns_cmp, group_record, occurring, table_header, table_text, values_text}
use Rattle.par_model.specs.declared.state.AggState.{AggState}
use Rattle.partial_agg.specs.Groups.{AreGroups, GroupsByKey, group_of}
use Rattle.partial_agg.specs.Listed.{group, listed}
use Rattle.partial_agg.specs.State.{empty_state}
use Rattle.partial_agg.specs.declared.groups.Group.{Group}
use Rattle.partial_agg.proofs.Ideal.{state_of_none}
use Rattle.result_text.specs.Text.{IsTextOf, Line, group_of_line, line_record, shown}
use Rattle.partial_agg.proofs.Entries.{Contains-found, behind}
use Rattle.result_text.proofs.KeyColumns.{same_encoding}
use Rattle.result_text.proofs.Occurring.{occurs, row_occurs, some_both, state_is}
use Rattle.result_text.proofs.Uses.{All-listed}

abbrev pub Rows : Type 0
Rows = List (List (List ℕ))

-- elements of a list under a function
pub Contains-map : {X Y : Type 0} (f : X → Y) (xs : List X) (x : X) → Contains xs x → Contains (map f xs) (f x)
Contains-map f xs x has = (has.0, omega (arith, has.1, length-map xs f), get_or-map f xs has.0 x (f x) has.1 ∙ ap f has.2)

Contains-from_map : {X Y : Type 0} (f : X → Y) (xs : List X) (y : Y) → Contains (map f xs) y → (x : X) × Contains xs x × (f x ≡ y)
Contains-from_map {X = X} f xs y has = at_place xs has.0 has.1 has.2
  where
    at_place : (xs : List X) (k : ℕ) → k < length (map f xs) → get_or (map f xs) k y ≡ y → (x : X) × Contains xs x × (f x ≡ y)
    at_place [] k within is = absurd (omega arith)
    at_place (x ∷ xs) zero within is = (x, (0, omega arith, refl), is)
    at_place (x ∷ xs) (suc k) within is =
        let later = at_place xs k (omega arith) is in
        (later.0, behind later.0 x xs later.1, later.2)

-- the facts of a line: its key occurs, with its aggregates, and is short
pub record IsLineOf (plan : Plan) (rows : Rows) (line : Line) : Type 0 where
  pub is : group_of plan rows (encoded line.0) ≡ Some line.1
  pub short : length (encoded line.0) ≤ 248

-- the same facts of a group
abbrev pub IsGroupOf : Plan → Rows → Group → Type 0
IsGroupOf plan rows g = (group_of plan rows g.key ≡ Some g.state) × (length g.key ≤ 248)

pub all_lines : (plan : Plan) (rows : Rows) (groups : List Group) (lines : List Line) → IsPermutation groups (map group_of_line lines) → All (IsGroupOf plan rows) groups → All (IsLineOf plan rows) lines
all_lines plan rows groups lines same all k d lt =
    let long : k < length (map group_of_line lines) = omega (arith, length-map lines group_of_line) in
    let at = subst (IsGroupOf plan rows) (get_or-map group_of_line lines k d (group_of_line d) lt) (All-permutation (IsGroupOf plan rows) groups (map group_of_line lines) same all k (group_of_line d) long) in
    record { is = at.0; short = at.1 }

-- the record of a line is that of its group
records_are : (plan : Plan) (rows : Rows) (lines : List Line) → All (λ (line : Line). line.1 ≡ state_of plan rows (encoded line.0)) lines → map (line_record plan) lines ≡ map (group_record plan rows) (map (λ (line : Line). line.0) lines)
records_are plan rows [] all = refl
records_are plan rows (line ∷ lines) all =
    λ i. (line.0 ++ values_text plan (All-head (λ (line : Line). line.1 ≡ state_of plan rows (encoded line.0)) line lines all i)) ∷ records_are plan rows lines (All-tail (λ (line : Line). line.1 ≡ state_of plan rows (encoded line.0)) line lines all) i

-- a line has the columns of some row that is kept
pub row_of_line : (plan : Plan) (rows : Rows) (line : Line) → IsLineOf plan rows line → (row : List (List ℕ)) × Contains (filter (is_kept plan) rows) row × (columns_of plan row ≡ line.0)
row_of_line plan rows line of =
    let row = occurs plan rows (encoded line.0) line.1 of.is in
    (row.0, row.1, sym (same_encoding line.0 (columns_of plan row.0) of.short (sym row.2)))

-- lines have each group of some rows
abbrev pub HaveAll : Plan → Rows → List Line → Type 0
HaveAll plan rows lines = (key : List ℕ) (state : AggState) → group_of plan rows key ≡ Some state → Contains (map group_of_line lines) (record { key = key; state = state })

pub have_listed : (plan : Plan) (rows : Rows) (m : GroupsByKey) (lines : List Line) → AreGroups plan rows m → IsPermutation (listed m) (map group_of_line lines) → HaveAll plan rows lines
have_listed plan rows m lines are same key state is =
    Contains-permutation (listed m) (map group_of_line lines) (record { key = key; state = state }) same
    (Contains-map group (finite.entries m) (key, state) (Contains-found m key state (are.each key ∙ is)))

-- a row that is kept has the columns of some line
line_of_row : (plan : Plan) (rows : Rows) (lines : List Line) (row : List (List ℕ)) → HaveAll plan rows lines → All (IsLineOf plan rows) lines
    → Contains (filter (is_kept plan) rows) row → Contains (map (λ (line : Line). line.0) lines) (columns_of plan row)
line_of_row plan rows lines row have all has =
    let state = state_of plan rows (key_of plan row) in
    let g : Group = record { key = key_of plan row; state = state } in
    let there = have (key_of plan row) state (row_occurs plan rows row has) in
    let line = Contains-from_map group_of_line lines g there in
    let of = All-contains (IsLineOf plan rows) lines line.0 all line.1 in
    let columns : line.0.0 ≡ columns_of plan row = same_encoding line.0.0 (columns_of plan row) of.short (ap (λ (g : Group). g.key) line.2) in
    subst (Contains (map (λ (line : Line). line.0) lines)) columns (Contains-map (λ (line : Line). line.0) lines line.0 line.1)

-- the lines that are shown have the columns that occur, and the aggregates of their keys
pub record AreShown (plan : Plan) (rows : Rows) (lines : List Line) : Type 0 where
  pub each : IsDistinctSorted (occurring plan rows) (map (λ (line : Line). line.0) lines)
  pub states : All (λ (line : Line). line.1 ≡ state_of plan rows (encoded line.0)) lines

states_are : (plan : Plan) (rows : Rows) (lines : List Line) → All (IsLineOf plan rows) lines → All (λ (line : Line). line.1 ≡ state_of plan rows (encoded line.0)) lines
states_are plan rows lines all k d lt = state_is plan rows (encoded (get_or lines k d).0) (get_or lines k d).1 (all k d lt).is

-- where columns are grouped by, the lines are those of the rows that are kept
pub grouped : (plan : Plan) (rows : Rows) (lines : List Line) → (length plan.groups == 0) ≡ false → IsStrictlySortedBy columns_cmp (map (λ (line : Line). line.0) lines)
    → HaveAll plan rows lines → All (IsLineOf plan rows) lines → AreShown plan rows (shown plan lines)
grouped plan rows lines some rising have all = rw some (record {
  each = rw some (record {
    rising = rising;
    same = λ columns. (
      λ has.
          let line = Contains-from_map (λ (line : Line). line.0) lines columns has in
          let row = row_of_line plan rows line.0 (All-contains (IsLineOf plan rows) lines line.0 all line.1) in
          subst (Contains (map (columns_of plan) (filter (is_kept plan) rows))) (row.2 ∙ line.2) (Contains-map (columns_of plan) (filter (is_kept plan) rows) row.0 row.1),
      λ has.
          let row = Contains-from_map (columns_of plan) (filter (is_kept plan) rows) columns has in
          subst (Contains (map (λ (line : Line). line.0) lines)) row.2 (line_of_row plan rows lines row.0 have all row.1),
    );
  });
  states = states_are plan rows lines all;
})

-- where nothing is grouped by, a row has no columns
no_columns : (plan : Plan) (row : List (List ℕ)) → length plan.groups ≡ 0 → columns_of plan row ≡ []
no_columns plan row none = by (map (field_of row) plan.groups) (length-map plan.groups (field_of row) ∙ none)
  where
    by : (xs : List (List ℕ)) → length xs ≡ 0 → xs ≡ []
    by [] e = refl
    by (x ∷ xs) e = absurd (omega arith)

no_elements : {X : Type 0} (xs : List X) → (0 < length xs → ⊥) → xs ≡ []
no_elements [] none = refl
no_elements (x ∷ xs) none = absurd (none (omega arith))

-- there is no group: then no row is kept, and the one line is that of no rows
ungrouped_none : (plan : Plan) (rows : Rows) → (length plan.groups == 0) ≡ true → length plan.items ≤ 8 → HaveAll plan rows [] → AreShown plan rows (shown plan [])
unfolding IsStrictlySortedBy
ungrouped_none plan rows none few have =
    let empty : rows_of plan rows (encoded []) ≡ [] = no_elements (rows_of plan rows (encoded [])) (λ some.
    let row = some_both (is_kept plan) (λ (row : List (List ℕ)). bytes_eq (key_of plan row) (encoded [])) rows some in
    let has = line_of_row plan rows [] row.0 have (λ k d lt. absurd (omega arith)) row.1 in
    omega (arith, has.1)) in
    let state : empty_state ≡ state_of plan rows (encoded []) = sym (ap (state_of_rows plan) empty ∙ state_of_none plan few) in
    rw none (record {
      each = rw none (record { rising = (tt, tt); same = λ columns. (λ has. has, λ has. has) });
      states = All-cons (λ (line : Line). line.1 ≡ state_of plan rows (encoded line.0)) ([], empty_state) [] state (λ k d lt. absurd (omega arith));
    })

-- there are groups: each line has no columns
ungrouped_some : (plan : Plan) (rows : Rows) (line : Line) (lines : List Line) → (length plan.groups == 0) ≡ true → IsStrictlySortedBy columns_cmp (map (λ (line : Line). line.0) (line ∷ lines))
    → All (IsLineOf plan rows) (line ∷ lines) → AreShown plan rows (shown plan (line ∷ lines))
ungrouped_some plan rows line lines none rising all =
    let bare : (l : Line) → IsLineOf plan rows l → l.0 ≡ [] = λ l of. let row = row_of_line plan rows l of in sym row.2 ∙ no_columns plan row.0 (eqb-true (length plan.groups) 0 none) in
    let first = bare line (All-head (IsLineOf plan rows) line lines all) in
    rw (none, eqb-suc-zero (length lines)) (record {
      each = rw none (record {
        rising = rising;
        same = λ columns. (
          λ has.
              let l = Contains-from_map (λ (line : Line). line.0) (line ∷ lines) columns has in
              (0, omega arith, sym (bare l.0 (All-contains (IsLineOf plan rows) (line ∷ lines) l.0 all l.1)) ∙ l.2),
          λ has. (0, omega arith, first ∙ only columns has),
        );
      });
      states = states_are plan rows (line ∷ lines) all;
    })
  where
    only : (columns : List (List ℕ)) → Contains ([] ∷ []) columns → [] ≡ columns
    only columns has = by has.0 has.1 has.2
      where
        by : (k : ℕ) → k < length {A = List (List ℕ)} ([] ∷ []) → get_or ([] ∷ []) k columns ≡ columns → [] ≡ columns
        by zero lt is = is
        by (suc k) lt is = absurd (omega arith)

all_shown : (plan : Plan) (rows : Rows) (lines : List Line) → length plan.items ≤ 8 → IsStrictlySortedBy columns_cmp (map (λ (line : Line). line.0) lines)
    → HaveAll plan rows lines → All (IsLineOf plan rows) lines → AreShown plan rows (shown plan lines)
all_shown plan rows lines few rising have all = by (length plan.groups == 0) refl lines rising have all
  where
    by : (b : Bool) → (length plan.groups == 0) ≡ b → (lines : List Line) → IsStrictlySortedBy columns_cmp (map (λ (line : Line). line.0) lines)
        → HaveAll plan rows lines → All (IsLineOf plan rows) lines → AreShown plan rows (shown plan lines)
    by false some lines rising have all = grouped plan rows lines some rising have all
    by true none [] rising have all = ungrouped_none plan rows none few have
    by true none (line ∷ lines) rising have all = ungrouped_some plan rows line lines none rising all

-- what is shown, behind the header, is the table
pub answered : (names : NamedPlan) (plan : Plan) (header : List (List ℕ)) (rows : Rows) (lines : List Line) (text : List ℕ) → plan ≡ bound_plan header names → AreShown plan rows (shown plan lines)
    → text ≡ table_text (table_header names ∷ map (line_record plan) (shown plan lines)) → IsAnswer names (header ∷ rows) text
unfolding IsAnswer
answered names plan header rows lines text bound seen is =
    let table = table_header names ∷ map (line_record plan) (shown plan lines) in
    let whole : IsTable names plan rows table = record {
      groups = map (λ (line : Line). line.0) (shown plan lines);
      each = seen.each;
      is = ap (λ (records : Rows). table_header names ∷ records) (records_are plan rows (shown plan lines) seen.states);
    } in
    (table, subst (λ (p : Plan). IsTable names p rows table) bound whole, is)

-- the text answers the plan
pub answers : (names : NamedPlan) (plan : Plan) (groups : List Group) (text : List ℕ) (header : List (List ℕ)) (rows : Rows) (m : GroupsByKey) → IsTextOf names plan groups text
    → All (λ (g : Group). length g.key ≤ 248) groups → length plan.items ≤ 8 → plan ≡ bound_plan header names → AreGroups plan rows m → groups ≡ listed m → IsAnswer names (header ∷ rows) text
answers names plan groups text header rows m is short few bound are listed_is =
    let table = is.each in
    let each : All (IsGroupOf plan rows) groups = λ k d lt. (subst (λ (gs : List Group). All (λ (g : Group). group_of plan rows g.key ≡ Some g.state) gs) (sym listed_is) (All-listed plan rows m are) k d lt, short k d lt) in
    let all = all_lines plan rows groups table.lines table.same each in
    let same : IsPermutation (listed m) (map group_of_line table.lines) = subst (λ (gs : List Group). IsPermutation gs (map group_of_line table.lines)) listed_is table.same in
    answered names plan header rows table.lines text bound (all_shown plan rows table.lines few table.rising (have_listed plan rows m table.lines are same) all) (is.is ∙ ap table_text table.is)

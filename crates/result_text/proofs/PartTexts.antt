-- The lines of parts of the groups, where the parts go along with the order of the columns, are one behind the other those
-- of the table.
use Rattle.std.proofs.Common.{◌≡◌, ◌<◌, ◌≤◌, ◌+◌, ◌++◌, ◌==◌, ◌∷◌, ◌∙◌, [], ap, sym, refl, subst, arith, Bool, true, false, cond, ℕ, zero, suc, List, All, Contains, None, Option, Some, Ok, IfOk, Result, length, get_or, map}
use Rattle.std.proofs.lemmas.Bool.{eqb-false, eqb-true, ne_eqb}
use Rattle.std.proofs.lemmas.List.{get_or-map, length-map, map-append}
use Rattle.std.proofs.lemmas.List.Elements.{All-append, All-head, All-map, All-nil, All-tail}
use Rattle.std.proofs.lemmas.List.Sorted.{All-permutation, Contains-permutation}
use Rattle.std.specs.FinMap as finite
use Rattle.std.specs.Global.{Vec}
use Rattle.std.specs.declared.alloc.AllocError.{AllocError}
use Rattle.std.specs.List.{AllByRecursion, concat}
use Rattle.std.specs.List.Sorted.{IsPermutation, IsStrictlySortedBy}
use Rattle.std.specs.declared.cmp.Ordering.TheVariants.{Less}
use Rattle.csv.specs.Writing.{default_writer, row_text}
use Rattle.par_model.specs.Key.{encoded}
use Rattle.par_model.specs.Named.{NamedPlan, bound_plan}
use Rattle.par_model.specs.Outcome.{IsAnswer}
use Rattle.par_model.specs.Plan.{Plan}
use Rattle.par_model.specs.Record.{field_of}
use Rattle.par_model.specs.Table.{columns_cmp, table_header, table_text}
use Rattle.par_model.specs.declared.state.AggState.{AggState}
use Rattle.partial_agg.specs.Groups.{GroupsByKey, group_of}
use Rattle.partial_agg.specs.Listed.{group, listed}
use Rattle.partial_agg.specs.declared.groups.Group.{Group}
use Rattle.partial_agg.proofs.Entries.{All-found, Contains-found, behind}
use Rattle.result_text.specs.KeyColumns.{columns_in}
use Rattle.result_text.specs.Pieces.{joined}
use Rattle.result_text.specs.PartTexts.{ArePartGroups, IsPartText, PartsAnswer, RisesBy}
use Rattle.result_text.specs.Text.{Line, group_of_line, line_record}
use Rattle.result_text.proofs.Answering.{Contains-map, HaveAll, IsLineOf, Rows, all_lines, answered, grouped, row_of_line}
use Rattle.result_text.proofs.KeyColumns.{columns_in-encoded}
use Rattle.result_text.proofs.Ranges.{at_ok, many_ok, ok_same, shown-all}
use Rattle.result_text.proofs.Tables.{table_text-append, table_text-cons, table_text-nil}

-- ---- lists one behind the other

in_front : {X : Type 0} (xs ys : List X) (x : X) (k : ℕ) → k < length xs → get_or xs k x ≡ x → Contains (xs ++ ys) x
in_front [] ys x k lt is = absurd (omega (arith, lt))
in_front (y ∷ xs) ys x zero lt is = (0, omega arith, is)
in_front (y ∷ xs) ys x (suc k) lt is = behind x y (xs ++ ys) (in_front xs ys x k (omega (arith, lt)) is)

in_back : {X : Type 0} (xs ys : List X) (x : X) → Contains ys x → Contains (xs ++ ys) x
in_back [] ys x has = has
in_back (y ∷ xs) ys x has = behind x y (xs ++ ys) (in_back xs ys x has)

each_append : {X : Type 0} (P : X → Type 0) (xs ys : List X) → AllByRecursion P xs → AllByRecursion P ys → AllByRecursion P (xs ++ ys)
each_append P [] ys h k = k
each_append P (x ∷ xs) ys h k = (h.0, each_append P xs ys h.1 k)

abbrev Columns : Type 0
Columns = List (List ℕ)

-- the front rises, and so does the back, and nothing of the back stands before anything of the front
rising_append : (xs ys : List Columns) → IsStrictlySortedBy columns_cmp xs → IsStrictlySortedBy columns_cmp ys → AllByRecursion (λ x. AllByRecursion (λ y. columns_cmp x y ≡ Less) ys) xs
    → IsStrictlySortedBy columns_cmp (xs ++ ys)
unfolding IsStrictlySortedBy
rising_append [] ys h k before = k
rising_append (x ∷ xs) ys h k before = (each_append (λ y. columns_cmp x y ≡ Less) xs ys h.0 before.0, rising_append xs ys h.1 k before.1)

-- ---- the lines of one part

kept_one : (b : Bool) (o : Option AggState) (s : AggState) → cond b o None ≡ Some s → (b ≡ true) × (o ≡ Some s)
kept_one true o s e = (refl, e)
kept_one false o s e = cc

nothing_rises : IsStrictlySortedBy columns_cmp []
unfolding IsStrictlySortedBy
nothing_rises = tt

module _ (plan : Plan) (rows : Rows) (part_of : List ℕ → ℕ) where
  -- each group of a part is one of the rows, and of the part
  abbrev IsIn : ℕ → Group → Type 0
  IsIn part g = (group_of plan rows g.key ≡ Some g.state) × (part_of g.key ≡ part)

  one_in : (part : ℕ) (m : GroupsByKey) → ArePartGroups plan rows part_of part m → (k : ℕ) (d : List ℕ × AggState) → k < length (finite.entries m) → IsIn part (group (get_or (finite.entries m) k d))
  one_in part m are k d lt =
      let entry = get_or (finite.entries m) k d in
      let both = kept_one (part_of entry.0 == part) (group_of plan rows entry.0) entry.1 (sym (are.each entry.0) ∙ All-found m k d lt) in
      (both.1, eqb-true (part_of entry.0) part both.0)

  all_in : (part : ℕ) (m : GroupsByKey) → ArePartGroups plan rows part_of part m → All (IsIn part) (listed m)
  all_in part m are = All-map (IsIn part) group (finite.entries m) (one_in part m are)

  all_parts : (part : ℕ) (groups : List Group) (lines : List Line) → All (IsIn part) groups → IsPermutation groups (map group_of_line lines) → All (λ (l : Line). part_of (encoded l.0) ≡ part) lines
  all_parts part groups lines each same k d lt =
      let long : k < length (map group_of_line lines) = omega (arith, lt, length-map lines group_of_line) in
      let at = All-permutation (IsIn part) groups (map group_of_line lines) same each k (group_of_line d) long in
      (subst (IsIn part) (get_or-map group_of_line lines k d (group_of_line d) lt) at).1

  -- the columns of a line are read of its key
  read_line : (line : Line) → IsLineOf plan rows line → columns_in (length plan.groups) (encoded line.0) ≡ line.0
  read_line line of =
      let row = row_of_line plan rows line of in
      let many : length line.0 ≡ length plan.groups = sym (ap (λ (l : Columns). length l) row.2) ∙ length-map plan.groups (field_of row.0) in
      subst (λ n. columns_in n (encoded line.0) ≡ line.0) many (columns_in-encoded line.0 of.short)

  -- ---- the lines of the parts from one on

  record AreFrom (part : ℕ) (texts : List (List ℕ)) : Type 0 where
    lines : List Line
    rising : IsStrictlySortedBy columns_cmp (map (λ (l : Line). l.0) lines)
    each : All (IsLineOf plan rows) lines
    low : All (λ (l : Line). part ≤ part_of (encoded l.0)) lines
    have : (key : List ℕ) (state : AggState) → group_of plan rows key ≡ Some state → part ≤ part_of key → part_of key < part + length texts → Contains (map group_of_line lines) (record { key = key; state = state })
    is : concat texts ≡ table_text (map (line_record plan) lines)

  -- a line of a lower part stands before one of a higher
  before_line : RisesBy (length plan.groups) part_of → (a b : Line) → IsLineOf plan rows a → IsLineOf plan rows b → part_of (encoded a.0) < part_of (encoded b.0) → columns_cmp a.0 b.0 ≡ Less
  before_line rises a b of_a of_b lower = (λ i. columns_cmp (sym (read_line a of_a) i) (sym (read_line b of_b) i)) ∙ rises (encoded a.0) (encoded b.0) lower

  before_all : RisesBy (length plan.groups) part_of → (part : ℕ) (a : Line) → IsLineOf plan rows a → part_of (encoded a.0) ≡ part → (bs : List Line) → All (IsLineOf plan rows) bs
      → All (λ (l : Line). part + 1 ≤ part_of (encoded l.0)) bs → AllByRecursion (λ y. columns_cmp a.0 y ≡ Less) (map (λ (l : Line). l.0) bs)
  before_all rises part a of_a is [] each low = tt
  before_all rises part a of_a is (b ∷ bs) each low =
      let higher = All-head (λ (l : Line). part + 1 ≤ part_of (encoded l.0)) b bs low in (
        before_line rises a b of_a (All-head (IsLineOf plan rows) b bs each) (omega (arith, is, higher)),
        before_all rises part a of_a is bs (All-tail (IsLineOf plan rows) b bs each) (All-tail (λ (l : Line). part + 1 ≤ part_of (encoded l.0)) b bs low),
      )

  all_before : RisesBy (length plan.groups) part_of → (part : ℕ) (as' bs : List Line) → All (IsLineOf plan rows) as' → All (λ (l : Line). part_of (encoded l.0) ≡ part) as' → All (IsLineOf plan rows) bs
      → All (λ (l : Line). part + 1 ≤ part_of (encoded l.0)) bs → AllByRecursion (λ x. AllByRecursion (λ y. columns_cmp x y ≡ Less) (map (λ (l : Line). l.0) bs)) (map (λ (l : Line). l.0) as')
  all_before rises part [] bs each here others low = tt
  all_before rises part (a ∷ as') bs each here others low = (
    before_all rises part a (All-head (IsLineOf plan rows) a as' each) (All-head (λ (l : Line). part_of (encoded l.0) ≡ part) a as' here) bs others low,
    all_before rises part as' bs (All-tail (IsLineOf plan rows) a as' each) (All-tail (λ (l : Line). part_of (encoded l.0) ≡ part) a as' here) others low,
  )

  one_more : RisesBy (length plan.groups) part_of → (part : ℕ) (text : List ℕ) (texts : List (List ℕ)) → IsPartText plan rows part_of part text → AreFrom (part + 1) texts → AreFrom part (text ∷ texts)
  one_more rises part text texts here rest =
      let own = here.lines in
      let ins = all_in part here.groups here.are in
      let groups = listed here.groups in
      let each = all_lines plan rows groups own.lines own.same (λ k d lt. ((ins k d lt).0, own.short k d lt)) in
      let parts = all_parts part groups own.lines ins own.same in
      let first = λ (l : Line). l.0 in
      let Low : ℕ → Line → Type 0 = λ n l. n ≤ part_of (encoded l.0) in
      record {
        lines = own.lines ++ rest.lines;
        rising = subst (IsStrictlySortedBy columns_cmp) (sym (map-append first own.lines rest.lines))
            (rising_append (map first own.lines) (map first rest.lines) own.rising rest.rising (all_before rises part own.lines rest.lines each parts rest.each rest.low));
        each = All-append (IsLineOf plan rows) own.lines rest.lines each rest.each;
        low = All-append (Low part) own.lines rest.lines (λ k d lt. omega (arith, parts k d lt)) (λ k d lt. omega (arith, rest.low k d lt));
        have = λ key state is low high. subst (λ (gs : List Group). Contains gs (record { key = key; state = state })) (sym (map-append group_of_line own.lines rest.lines)) (by key state is low high (part_of key == part) refl);
        is = (λ i. own.is i ++ rest.is i) ∙ sym (table_text-append (map (line_record plan) own.lines) (map (line_record plan) rest.lines)) ∙ ap table_text (sym (map-append (line_record plan) own.lines rest.lines));
      }
    where
      by : (key : List ℕ) (state : AggState) → group_of plan rows key ≡ Some state → part ≤ part_of key → part_of key < part + length (text ∷ texts) → (b : Bool) → (part_of key == part) ≡ b
          → Contains (map group_of_line here.lines.lines ++ map group_of_line rest.lines) (record { key = key; state = state })
      by key state is low high true e =
          let m = here.groups in
          let found = here.are.each key ∙ ap (λ b. cond b (group_of plan rows key) None) e ∙ is in
          let listed_in = Contains-map group (finite.entries m) (key, state) (Contains-found m key state found) in
          let there = Contains-permutation (listed m) (map group_of_line here.lines.lines) (record { key = key; state = state }) here.lines.same listed_in in
          in_front (map group_of_line here.lines.lines) (map group_of_line rest.lines) (record { key = key; state = state }) there.0 there.1 there.2
      by key state is low high false e =
          let other : part_of key ≡ part → ⊥ = eqb-false (part_of key) part e in
          in_back (map group_of_line here.lines.lines) (map group_of_line rest.lines) (record { key = key; state = state }) (rest.have key state is (omega (arith, low, other)) (omega (arith, high)))

  from : RisesBy (length plan.groups) part_of → (part : ℕ) (texts : List (List ℕ)) → ((k : ℕ) (d : List ℕ) → k < length texts → IsPartText plan rows part_of (part + k) (get_or texts k d)) → AreFrom part texts
  from rises part [] each = record {
    lines = [];
    rising = nothing_rises;
    each = All-nil (IsLineOf plan rows);
    low = All-nil (λ (l : Line). part ≤ part_of (encoded l.0));
    have = λ key state is low high. absurd (omega (arith, low, high));
    is = sym table_text-nil;
  }
  from rises part (text ∷ texts) each =
      one_more rises part text texts (subst (λ n. IsPartText plan rows part_of n text) (let e : part + 0 ≡ part = omega arith in e) (each 0 text (omega arith)))
      (from rises (part + 1) texts (λ k d lt. subst (λ n. IsPartText plan rows part_of n (get_or texts k d)) (let e : part + suc k ≡ part + 1 + k = omega arith in e) (each (suc k) d (omega (arith, lt)))))

-- all parts
pub parts_answer : PartsAnswer
parts_answer names plan header rows part_of texts bound some rises within each =
    let all = from plan rows part_of rises 0 texts (λ k d lt. subst (λ n. IsPartText plan rows part_of n (get_or texts k d)) (let e : k ≡ 0 + k = omega arith in e) (each k d lt)) in
    let have : HaveAll plan rows all.lines = λ key state is. all.have key state is (omega arith) (omega (arith, within key)) in
    let many : (length plan.groups == 0) ≡ false = ne_eqb (length plan.groups) 0 some in
    let lines = all.lines in
    answered names plan header rows lines (row_text default_writer (table_header names) ++ concat texts) bound (grouped plan rows lines many all.rising have all.each)
    (ap (λ (t : List ℕ). row_text default_writer (table_header names) ++ t) all.is ∙ sym (table_text-cons (table_header names) (map (line_record plan) lines))
    ∙ ap (λ (ls : List Line). table_text (table_header names ∷ map (line_record plan) ls)) (sym (shown-all plan lines some)))

-- ---- pieces

abbrev Piece : Type 0
Piece = Result (Vec ℕ) AllocError

abbrev bytes_of : Vec ℕ → List ℕ
bytes_of piece = piece.items

-- the header, and the texts of all parts, if there was memory for all of them
pub pieces_answer : (names : NamedPlan) (plan : Plan) (header : List (List ℕ)) (rows : Rows) (part_of : List ℕ → ℕ) (first : Vec ℕ) (parts : List Piece) (pieces : List (Vec ℕ)) → plan ≡ bound_plan header names
    → (length plan.groups ≡ 0 → ⊥) → RisesBy (length plan.groups) part_of → ((key : List ℕ) → part_of key < length parts)
    → ((k : ℕ) (d : Piece) → k < length parts → IfOk (get_or parts k d) (λ text. IsPartText plan rows part_of k text.items)) → first.items ≡ row_text default_writer (table_header names)
    → Path (List Piece) (map Ok pieces) (Ok first ∷ parts) → IsAnswer names (header ∷ rows) (joined pieces)
pieces_answer names plan header rows part_of first parts [] bound some rises within each begins is = absurd (cc)
pieces_answer names plan header rows part_of first parts (piece ∷ pieces) bound some rises within each begins is =
    let head : piece ≡ first = ok_same piece first (cc) in
    let tail : Path (List Piece) (map Ok pieces) parts = cc in
    let long : length parts ≡ length pieces = many_ok pieces parts tail in
    let many : length (map bytes_of pieces) ≡ length pieces = length-map pieces bytes_of in
    let texts : (k : ℕ) (d : List ℕ) → k < length (map bytes_of pieces) → IsPartText plan rows part_of k (get_or (map bytes_of pieces) k d) = λ k d lt. by k d (omega (arith, lt, many)) (omega (arith, lt, many, long)) tail in
    let answer = parts_answer names plan header rows part_of (map bytes_of pieces) bound some rises (λ key. omega (arith, within key, long, many)) texts in
    subst (λ (t : List ℕ). IsAnswer names (header ∷ rows) (t ++ joined pieces)) (sym (ap bytes_of head ∙ begins)) answer
  where
    by : (k : ℕ) (d : List ℕ) → k < length pieces → k < length parts → Path (List Piece) (map Ok pieces) parts → IsPartText plan rows part_of k (get_or (map bytes_of pieces) k d)
    by k d lt lt' tail =
        let v = get_or pieces k first in
        let text = subst (λ (ps : List Piece). IfOk (get_or ps k (Ok first)) (λ text. IsPartText plan rows part_of k text.items)) (sym tail) (each k (Ok first) lt') in
        let here : IsPartText plan rows part_of k v.items = subst (λ (part : Piece). IfOk part (λ text. IsPartText plan rows part_of k text.items)) (at_ok pieces k first lt) text in
        let same : get_or (map bytes_of pieces) k d ≡ v.items = get_or-map bytes_of pieces k first d lt in
        subst (IsPartText plan rows part_of k) (sym same) here

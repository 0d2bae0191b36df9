-- The texts of all ranges are the text of the table of all rows.
use Rattle.std.proofs.Common.{◌≡◌, ◌+◌, ◌<◌, ◌≤◌, ◌^◌, ◌∷◌, ◌==◌, ℕ, suc, List, [], All, Ok, IfOk, Result, length, map, get_or, slice_index_or, sym, subst, arith}
use Rattle.std.proofs.lemmas.Bool.{eq-eqb, eqb-true}
use Rattle.std.proofs.lemmas.List.Elements.{All-cons, All-contains, All-head, All-nil, All-tail}
use Rattle.std.proofs.lemmas.List.Sorted.{All-permutation, IsPermutation-refl, IsPermutation-sym, IsPermutation-trans}
use Rattle.std.proofs.lemmas.Result.{IfOk-weaker}
use Rattle.std.specs.Global.{Vec}
use Rattle.std.specs.List.Sorted.{IsPermutation, IsSortedBy}
use Rattle.std.specs.declared.alloc.AllocError.{AllocError}
use Rattle.csv.specs.Writing.{default_writer, row_text}
use Rattle.par_model.specs.Key.{key_of}
use Rattle.par_model.specs.Named.{NamedPlan, bound_plan}
use Rattle.par_model.specs.Outcome.{IsAnswer}
use Rattle.par_model.specs.Plan.{Plan}
use Rattle.par_model.specs.Table.{table_header}
use Rattle.partial_agg.specs.Groups.{AreGroups, GroupsByKey}
use Rattle.partial_agg.specs.Listed.{listed}
use Rattle.partial_agg.specs.declared.groups.Group.{Group}
use Rattle.result_text.specs.PartTexts.{RisesBy}
use Rattle.result_text.specs.Pieces.{joined}
use Rattle.result_text.specs.Printable.{ArePrintable, IsKeyOf}
use Rattle.result_text.specs.Text.{AreLinesOf}
use Rattle.result_text.proofs.PartTexts.{pieces_answer}
use Rattle.result_text.proofs.Uses.{printable-listed}
use Rattle.row_blocks.specs.Blocks.{Table}
use Rattle.gather_law.specs.KeyParts.{AreListings, part_map}
use Rattle.gather_law.specs.Shares.{rows_in}
use Rattle.gather_law.proofs.KeyParts.{parts_together}
use Rattle.gather_law.proofs.PartMaps.{parts_join}
use Rattle.row_lists.specs.Parts.{part_of}
use Rattle.part_run.specs.Parted.{AreParted, PartsShare}
use Rattle.line_runs.specs.Entries.{Entry, comes_before}
use Rattle.line_runs.specs.Jobs.{AreDone}
use Rattle.line_runs.specs.Ranges.{AreRangeTexts, IsRangeText, count_of, range_of}
use Rattle.line_runs.specs.Runs.{AreRunsOf, IsRunOf, Rise}
use Rattle.line_runs.specs.declared.ranges.Ranges.{Ranges}
use Rattle.line_runs.specs.declared.texts.Job.{Job}
use Rattle.line_runs.proofs.Groups.{IsFrom, IsIn, all_from, all_in, all_short, distinct_from, distinct_listed, entries_are, groups_of, is_listed, is_there, same_groups}
use Rattle.line_runs.proofs.Lines.{sorted_lines}
use Rattle.line_runs.proofs.Rising.{filter_few, range_below, rises}

-- ---- jobs

-- what holds of all images
pub all_under : {X Y : Type 0} (P : Y → Type 0) (f : X → Y) (xs : List X) → All P (map f xs) → All (λ x. P (f x)) xs
all_under P f [] all = All-nil (λ x. P (f x))
all_under P f (x ∷ xs) all = All-cons (λ x. P (f x)) x xs (All-head P (f x) (map f xs) all) (all_under P f xs (All-tail P (f x) (map f xs) all))

abbrev Made : Type 0
Made = Result (List Entry) AllocError

pub runs_made : (plan : Plan) (olds news : List Job) (runs : List (List Entry)) → AreDone plan olds news → Path (List Made) (map Ok runs) (map (λ (job : Job). job.run) news) → AreRunsOf plan (map (λ (job : Job). job.map) olds) runs
runs_made plan [] [] [] done is = tt
runs_made plan [] [] (run ∷ runs) done is = absurd (cc)
runs_made plan [] (n ∷ news) runs done is = absurd (omega (arith, done.count))
runs_made plan (o ∷ olds) [] runs done is = absurd (omega (arith, done.count))
runs_made plan (o ∷ olds) (n ∷ news) [] done is = absurd (cc)
runs_made plan (o ∷ olds) (n ∷ news) (run ∷ runs) done is =
    let head : Path Made (Ok run) n.run = cc in
    let tail : Path (List Made) (map Ok runs) (map (λ (job : Job). job.run) news) = cc in
    let here : IsRunOf plan (listed o.map) run = subst (λ (made : Made). IfOk made (IsRunOf plan (listed o.map))) (sym head) (done.each 0 o (omega arith)) in
    (here, runs_made plan olds news runs (record { count = omega (arith, done.count); each = λ k d lt. done.each (suc k) d (omega (arith, lt)) }) tail)

-- each run rises
pub all_rise : (plan : Plan) (maps : List GroupsByKey) (runs : List (List Entry)) → AreRunsOf plan maps runs → All (Rise (length plan.groups)) runs
all_rise plan [] [] are = All-nil (Rise (length plan.groups))
all_rise plan [] (run ∷ runs) are = absurd are
all_rise plan (m ∷ maps) [] are = absurd are
all_rise plan (m ∷ maps) (run ∷ runs) are = All-cons (Rise (length plan.groups)) run runs are.0.rises (all_rise plan maps runs are.1)

pub own_lists : (maps : List GroupsByKey) → AreListings maps (map listed maps)
own_lists [] = tt
own_lists (m ∷ maps) = (IsPermutation-refl (listed m), own_lists maps)

-- ---- the lines of a range

module _ (plan : Plan) (width : ℕ) (rows : Table) (maps : List GroupsByKey) (few : length rows ≤ 2 ^ 50) (parted : AreParted plan width rows maps) where
  from_first : (k : ℕ) (d : GroupsByKey) → k < length maps → AreGroups plan (rows_in plan part_of (0 + k) rows) (slice_index_or maps k d)
  from_first k d lt = subst (λ (n : ℕ). AreGroups plan (rows_in plan part_of n rows) (slice_index_or maps k d)) (let e : k ≡ 0 + k = omega arith in e) (parted.each k d (omega (arith, lt, parted.many)))

  -- the groups of each part's map have a text
  pub printable_part : All (λ m. ArePrintable plan (listed m)) maps
  printable_part k d lt =
      let its = rows_in plan part_of k rows in
      let fewer : length its ≤ length rows = filter_few (λ row. part_of (key_of plan row) == k) rows in
      printable-listed plan its (get_or maps k d) (omega (arith, fewer, few)) (parted.each k d (omega (arith, lt, parted.many)))

  module _ (share : PartsShare) (below : (key : List ℕ) → part_of key < 256) (r : Ranges) (range : ℕ) where
    abbrev pub own_map : GroupsByKey
    own_map = part_map (range_of r) range (map listed maps)

    pub range_groups : AreGroups plan (rows_in plan (range_of r) range rows) own_map
    range_groups = parts_join plan width (range_of r) range rows maps (map listed maps) (share plan width rows maps parted) (own_lists maps) (omega (arith, few))

    -- those of the range in all maps are the groups of its own map
    groups_same : IsPermutation (listed own_map) (groups_of (range_of r) range maps)
    groups_same = same_groups (listed own_map) (groups_of (range_of r) range maps) (distinct_listed plan part_of rows own_map) (distinct_from plan part_of rows (range_of r) range 0 maps from_first)
        (λ g has.
        let of = All-contains (IsIn plan (range_of r) rows range) (listed own_map) g (all_in plan (range_of r) rows range own_map range_groups) has in
        is_there plan part_of rows (range_of r) range 0 maps from_first g of.0 (eq-eqb (range_of r g.key) range of.1) (omega arith) (omega (arith, below g.key, parted.many)))
        (λ g has.
        let of = All-contains (IsFrom plan part_of rows (range_of r) range 0) (groups_of (range_of r) range maps) g (all_from plan part_of rows (range_of r) range 0 maps from_first) has in
        is_listed plan (range_of r) rows range own_map range_groups g (of.0, eqb-true (range_of r g.key) range of.1.1))

    pub range_lines : (runs : List (List Entry)) (text : List ℕ) → r.columns ≡ length plan.groups → AreRunsOf plan maps runs → IsRangeText r runs range text → AreLinesOf plan (listed own_map) text
    range_lines runs text columns are is =
        let flat = groups_of (range_of r) range maps in
        let back = IsPermutation-sym (listed own_map) flat groups_same in
        let its = rows_in plan (range_of r) range rows in
        let fewer : length its ≤ length rows = filter_few (λ row. range_of r (key_of plan row) == range) rows in
        let printable = printable-listed plan its own_map (omega (arith, fewer, few)) range_groups in
        let keys = All-permutation (λ (g : Group). IsKeyOf (length plan.groups) g.key) (listed own_map) flat groups_same printable.keys in
        let lines = sorted_lines plan flat is.entries text (all_short plan r range maps runs are) keys (distinct_from plan part_of rows (range_of r) range 0 maps from_first)
        (IsPermutation-trans _ _ is.entries (entries_are plan r range maps runs are) is.same) (subst (λ (n : ℕ). IsSortedBy (comes_before n) is.entries) columns is.sorted) is.is in
        record {
          lines = lines.lines;
          short = All-permutation (λ (g : Group). length g.key ≤ 248) flat (listed own_map) back lines.short;
          rising = lines.rising;
          same = IsPermutation-trans (listed own_map) flat _ groups_same lines.same;
          is = lines.is;
        }

-- ---- all ranges

abbrev Piece : Type 0
Piece = Result (Vec ℕ) AllocError

pub texts_answer : PartsShare → ((key : List ℕ) → part_of key < 256) → (names : NamedPlan) (plan : Plan) (r : Ranges) (maps : List GroupsByKey) (runs : List (List Entry)) (texts : List Piece) (first : Vec ℕ) (pieces : List (Vec ℕ)) → (length plan.groups ≡ 0 → ⊥)
    → r.columns ≡ length plan.groups → AreRunsOf plan maps runs → AreRangeTexts r runs (count_of r) texts → first.items ≡ row_text default_writer (table_header names) → Path (List Piece) (map Ok pieces) (Ok first ∷ texts)
    → (header : List (List ℕ)) (width : ℕ) (rows : Table) → plan ≡ bound_plan header names → length rows ≤ 2 ^ 50 → AreParted plan width rows maps → IsAnswer names (header ∷ rows) (joined pieces)
texts_answer share below names plan r maps runs texts first pieces some columns made are begins is header width rows bound few parted =
    pieces_answer names plan header rows (range_of r) first texts pieces bound some (subst (λ n. RisesBy n (range_of r)) columns (rises r)) (λ key. omega (arith, range_below r key, are.many))
    (λ k d lt. IfOk-weaker (get_or texts k d) _ _ (λ text of. record {
      groups = part_map (range_of r) k (map listed maps);
      are = record { each = λ key. parts_together plan (range_of r) k rows (part_map (range_of r) k (map listed maps)) key (range_groups plan width rows maps few parted share below r k) };
      lines = range_lines plan width rows maps few parted share below r k runs text.items columns made of;
    }) (are.each k d lt)) begins is

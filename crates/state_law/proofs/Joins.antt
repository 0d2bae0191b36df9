-- Stretches that touch, as one: what they say is so if it is so of each.
use Rattle.std.proofs.Common.{◌≡◌, ◌+◌, ◌++◌, ◌∙◌, ℕ, List, [], ◌∷◌, All, ap, append_assoc, append-nil, arith, fold, length, length-append, map, refl, subst, sym}
use Rattle.std.specs.List.{flat_map}
use Rattle.std.specs.List.Sorted.{IsPermutation}
use Rattle.std.proofs.lemmas.Grind.{flat_map-append}
use Rattle.std.proofs.lemmas.List.Elements.{All-append, All-cons, All-head, All-nil, All-tail}
use Rattle.std.proofs.lemmas.List.Sorted.{All-permutation, IsPermutation-sym}
use Rattle.par_model.specs.Plan.{Plan}
use Rattle.par_model.specs.Refuse.{refused_rows}
use Rattle.par_model.specs.declared.refusal.Refusal.{Refusal}
use Rattle.row_blocks.specs.Blocks.{Table}
use Rattle.row_blocks.proofs.Elements.{All-apart}
use Rattle.row_blocks.proofs.Permute.{flat_map-permutation}
use Rattle.state_cover.specs.Joined.{AreInTouch, IsRun, Run, Touches, joined, joined_rows, stretches_in, whole_of}
use Rattle.state_head.specs.declared.cover.Rows.{Rows}
use Rattle.state_head.specs.declared.cover.Rows.TheVariants.{Counted, Refused}
use Rattle.state_head.specs.declared.cover.Stretch.{Stretch}
use Rattle.state_total.specs.Total.{AreCounted, IsCounted, IsCoverOf}
use Rattle.state_law.specs.Sources.{Work, plan_in, rows_at, rows_in, width_in}
use Rattle.state_law.specs.Truth.{AreTold, IsTrue}
use Rattle.state_law.proofs.FirstRows.{later_by, refused_apart}
use Rattle.state_law.proofs.Tiles.{rows_joined, tile_joined}

-- ---- what is said of rows

module _ (plan : Plan) (width : ℕ) (xs ys : Table) where
  none_before : (more : List (ℕ × Refusal)) → refused_rows plan width xs ≡ [] → refused_rows plan width ys ≡ more → refused_rows plan width (xs ++ ys) ≡ map (later_by (length xs)) more
  none_before more one other =
      refused_apart plan width xs ys ∙ ap (λ (l : List (ℕ × Refusal)). l ++ map (later_by (length xs)) (refused_rows plan width ys)) one ∙ ap (map (later_by (length xs))) other

  counted_on : (rows row : ℕ) (why : Refusal) → rows ≡ length xs → later_by (length xs) (row, why) ≡ (rows + row, why)
  counted_on rows row why is = ap (λ (n : ℕ). (n, why)) (omega (arith, is))

  pub told_joined : (a b : Rows) → AreTold plan width xs a → AreTold plan width ys b → AreTold plan width (xs ++ ys) (joined_rows a b)
  told_joined (Counted rows) (Counted more) one other =
      let many = one.0 in
      let many' = other.0 in
      (omega (arith, many, many', length-append xs ys), none_before [] one.1 other.1)
  told_joined (Counted rows) (Refused why) one other =
      let r : Refusal = record { cause = why.cause; item = why.item } in
      record {
        others = map (later_by (length xs)) other.others;
        is = none_before ((why.row, r) ∷ other.others) one.1 other.is ∙ ap (λ (p : ℕ × Refusal). p ∷ map (later_by (length xs)) other.others) (counted_on rows why.row r one.0);
      }
  told_joined (Refused why) b one other = record {
    others = one.others ++ map (later_by (length xs)) (refused_rows plan width ys);
    is = refused_apart plan width xs ys ∙ ap (λ (l : List (ℕ × Refusal)). l ++ map (later_by (length xs)) (refused_rows plan width ys)) one.is;
  }

both_counted : (a b : Rows) → AreCounted (joined_rows a b) → AreCounted a × AreCounted b
both_counted (Counted rows) (Counted more) is = (tt, tt)
both_counted (Counted rows) (Refused why) is = absurd is
both_counted (Refused why) b is = absurd is

-- ---- runs

module _ (w : Work) where
  joined_true : (a b : Stretch) → Touches a.place b.place → IsTrue w a → IsTrue w b → IsTrue w (joined a b)
  joined_true a b touch one other =
      let rows = rows_joined w a.place b.place one.is_tile other.is_tile touch.source touch.size touch.at in
      record {
        is_tile = tile_joined w a.place b.place one.is_tile other.is_tile touch.source touch.size touch.at;
        are_told = subst (λ (l : Table). AreTold (plan_in w) (width_in w) l (joined_rows a.rows b.rows)) (sym rows) (told_joined (plan_in w) (width_in w) (rows_at w a.place) (rows_at w b.place) a.rows b.rows one.are_told other.are_told);
      }

  -- what some stretches that touch are as one
  pub record IsOne (stretches : List Stretch) (s : Stretch) : Type 0 where
    pub is_true : IsTrue w s
    pub rows : rows_at w s.place ≡ rows_in w stretches
    pub counted : IsCounted s → All IsCounted stretches

  run_from : (first : Stretch) (more : List Stretch) → AreInTouch first more → IsTrue w first → All (IsTrue w) more → IsOne (first ∷ more) (fold joined first more)
  run_from first [] touch one all = record {
    is_true = one;
    rows = sym (append-nil (rows_at w first.place));
    counted = λ is. All-cons IsCounted first [] is (All-nil IsCounted);
  }
  run_from first (next ∷ more) touch one all =
      let other = All-head (IsTrue w) next more all in
      let rest = run_from (joined first next) more touch.1 (joined_true first next touch.0 one other) (All-tail (IsTrue w) next more all) in
      let rows = rows_joined w first.place next.place one.is_tile other.is_tile touch.0.source touch.0.size touch.0.at in
      record {
        is_true = rest.is_true;
        rows = rest.rows ∙ ap (λ (l : Table). l ++ rows_in w more) rows ∙ append_assoc (rows_at w first.place) (rows_at w next.place) (rows_in w more);
        counted = λ is.
            let all = rest.counted is in
            let both = both_counted first.rows next.rows (All-head IsCounted (joined first next) more all) in
            All-cons IsCounted first (next ∷ more) both.0 (All-cons IsCounted next more both.1 (All-tail IsCounted (joined first next) more all));
      }

  -- ---- a cover

  -- what all stretches are as a cover
  pub record AreAsOne (stretches cover : List Stretch) : Type 0 where
    pub each : All (IsTrue w) cover
    pub rows : rows_in w cover ≡ rows_in w stretches
    pub counted : All IsCounted cover → All IsCounted stretches

  all_runs : (runs : List Run) → All IsRun runs → All (IsTrue w) (flat_map stretches_in runs) → AreAsOne (flat_map stretches_in runs) (map whole_of runs)
  all_runs [] each all = record { each = All-nil (IsTrue w); rows = refl; counted = λ is. is }
  all_runs (run ∷ runs) each all =
      let apart = All-apart (IsTrue w) (stretches_in run) (flat_map stretches_in runs) all in
      let one = run_from run.first run.more (All-head IsRun run runs each) (All-head (IsTrue w) run.first run.more apart.0) (All-tail (IsTrue w) run.first run.more apart.0) in
      let rest = all_runs runs (All-tail IsRun run runs each) apart.1 in
      record {
        each = All-cons (IsTrue w) (whole_of run) (map whole_of runs) one.is_true rest.each;
        rows = ap (λ (l : Table). l ++ rows_in w (map whole_of runs)) one.rows ∙ ap (λ (l : Table). rows_in w (stretches_in run) ++ l) rest.rows
            ∙ sym (flat_map-append (λ (s : Stretch). rows_at w s.place) (stretches_in run) (flat_map stretches_in runs));
        counted = λ is.
            All-append IsCounted (stretches_in run) (flat_map stretches_in runs) (one.counted (All-head IsCounted (whole_of run) (map whole_of runs) is))
            (rest.counted (All-tail IsCounted (whole_of run) (map whole_of runs) is));
      }

  -- a cover of stretches in any order
  pub record AreCovered (stretches cover : List Stretch) : Type 0 where
    pub each : All (IsTrue w) cover
    pub rows : IsPermutation (rows_in w stretches) (rows_in w cover)
    pub counted : All IsCounted cover → All IsCounted stretches

  pub are_covered : (stretches cover : List Stretch) → IsCoverOf cover stretches → All (IsTrue w) stretches → AreCovered stretches cover
  are_covered stretches cover of all =
      let moved : All (IsTrue w) of.order = All-permutation (IsTrue w) stretches of.order of.same all in
      let runs = of.join.runs in
      let one = all_runs runs of.join.each (subst (All (IsTrue w)) of.join.all moved) in
      let rows : IsPermutation (rows_in w stretches) (rows_in w of.order) = flat_map-permutation (λ (s : Stretch). rows_at w s.place) stretches of.order of.same in
      let same : rows_in w of.order ≡ rows_in w cover = ap (rows_in w) of.join.all ∙ sym one.rows ∙ sym (ap (rows_in w) of.join.is) in
      record {
        each = subst (All (IsTrue w)) (sym of.join.is) one.each;
        rows = subst (IsPermutation (rows_in w stretches)) same rows;
        counted = λ is.
            let mine = subst (All IsCounted) (sym of.join.all) (one.counted (subst (All IsCounted) of.join.is is)) in
            All-permutation IsCounted of.order stretches (IsPermutation-sym stretches of.order of.same) mine;
      }

-- What was counted of rows, with one row more.
use Rattle.std.proofs.Common.{◌≡◌, ◌<◌, ◌≤◌, ◌+◌, ◌++◌, ◌^◌, ◌∙◌, ℕ, List, [], ◌∷◌, All, None, Option, Some, true, false, ap, append-nil, arith, length, length-append, map, refl, subst, sym}
use Rattle.std.specs.Prelude.{is_none, is_some, option_map}
use Rattle.std.specs.List.{cons_option, enumerate_from, filter_map, list_all}
use Rattle.std.proofs.lemmas.List.Elements.{All-cons, All-nil, filter_map-append}
use Rattle.par_model.specs.Plan.{Plan}
use Rattle.par_model.specs.Refuse.{numbered_refusal, refusal, refused_rows}
use Rattle.par_model.specs.declared.refusal.Refusal.{Refusal}
use Rattle.partial_agg.specs.Rows.{IsAccepted}
use Rattle.row_blocks.specs.Blocks.{Table}
use Rattle.stream_groups.specs.Stops.{Tells}
use Rattle.stream_groups.specs.Ways.{of_text}
use Rattle.stream_groups.specs.declared.stop.Stop.TheVariants as stop
use Rattle.stream_groups.specs.declared.stop.RefusedRow.{RefusedRow}
use Rattle.good_rows.specs.Good.{is_good}
use Rattle.good_rows.proofs.Left.{both_of}
use Rattle.good_groups.specs.Counted.{HasCounted, IsFirst}
use Rattle.good_groups.specs.Opened.{Opened}
use Rattle.good_groups.specs.declared.tally.Tally.{Tally}

-- a refused row, counted from a later one on
abbrev pub later_by : ℕ → ℕ × Refusal → ℕ × Refusal
later_by k r = (r.0 + k, r.1)

enumerate_apart : (n : ℕ) (xs ys : Table) → enumerate_from n (xs ++ ys) ≡ enumerate_from n xs ++ enumerate_from (n + length xs) ys
enumerate_apart n [] ys = ap (λ (k : ℕ). enumerate_from k ys) (omega arith)
enumerate_apart n (x ∷ xs) ys =
    let same : n + 1 + length xs ≡ n + length (x ∷ xs) = omega arith in
    ap (λ (l : List (ℕ × List (List ℕ))). (n, x) ∷ l) (enumerate_apart (n + 1) xs ys ∙ ap (λ (k : ℕ). enumerate_from (n + 1) xs ++ enumerate_from k ys) same)

module _ (plan : Plan) (width : ℕ) where
  abbrev refused_from : ℕ → Table → List (ℕ × Refusal)
  refused_from n rows = filter_map (numbered_refusal plan width) (enumerate_from n rows)

  -- a row more in front
  abbrev with_refusal : Option Refusal → ℕ → List (ℕ × Refusal) → List (ℕ × Refusal)
  with_refusal None n more = more
  with_refusal (Some why) n more = (n, why) ∷ more

  one_more : (n : ℕ) (x : List (List ℕ)) (rows : Table) → refused_from n (x ∷ rows) ≡ with_refusal (refusal plan width x) n (refused_from (n + 1) rows)
  one_more n x rows = go (refusal plan width x) (refused_from (n + 1) rows)
    where
      go : (o : Option Refusal) (more : List (ℕ × Refusal)) → cons_option (option_map (λ cause. (n, cause)) o) more ≡ with_refusal o n more
      go None more = refl
      go (Some why) more = refl

  moved : (k n : ℕ) (rows : Table) → refused_from (n + k) rows ≡ map (later_by k) (refused_from n rows)
  moved k n [] = refl
  moved k n (x ∷ rows) =
      let same : n + k + 1 ≡ n + 1 + k = omega arith in
      one_more (n + k) x rows
      ∙ ap (with_refusal (refusal plan width x) (n + k)) (ap (λ (j : ℕ). refused_from j rows) same ∙ moved k (n + 1) rows)
      ∙ go (refusal plan width x) (refused_from (n + 1) rows)
      ∙ sym (ap (map (later_by k)) (one_more n x rows))
    where
      go : (o : Option Refusal) (more : List (ℕ × Refusal)) → with_refusal o (n + k) (map (later_by k) more) ≡ map (later_by k) (with_refusal o n more)
      go None more = refl
      go (Some why) more = refl

  -- the refused rows of two lists of rows: those of the first, and those of the second, counted on
  pub refused_apart : (xs ys : Table) → refused_rows plan width (xs ++ ys) ≡ refused_rows plan width xs ++ map (later_by (length xs)) (refused_rows plan width ys)
  unfolding refused_rows
  refused_apart xs ys =
      ap (filter_map (numbered_refusal plan width)) (enumerate_apart 1 xs ys)
      ∙ filter_map-append (numbered_refusal plan width) (enumerate_from 1 xs) (enumerate_from (1 + length xs) ys)
      ∙ ap (λ (l : List (ℕ × Refusal)). refused_from 1 xs ++ l) (moved (length xs) 1 ys)

  all_accepted_from : (n : ℕ) (rows : Table) → refused_from n rows ≡ [] → All (IsAccepted plan width) rows
  all_accepted_from n [] none = All-nil (IsAccepted plan width)
  all_accepted_from n (x ∷ rows) none =
      let split = go (refusal plan width x) (refused_from (n + 1) rows) (sym (one_more n x rows) ∙ none) in
      All-cons (IsAccepted plan width) x rows split.0 (all_accepted_from (n + 1) rows split.1)
    where
      go : (o : Option Refusal) (more : List (ℕ × Refusal)) → with_refusal o n more ≡ [] → (o ≡ None) × (more ≡ [])
      go None more e = (refl, e)
      go (Some why) more e = absurd (omega (arith, ap length e))

  -- if no row is refused, each is accepted
  pub all_accepted : (rows : Table) → refused_rows plan width rows ≡ [] → All (IsAccepted plan width) rows
  unfolding refused_rows
  all_accepted rows none = all_accepted_from 1 rows none

  -- one row more
  pub refused_none : (rows : Table) (row : List (List ℕ)) → refusal plan width row ≡ None → refused_rows plan width (rows ++ row ∷ []) ≡ refused_rows plan width rows
  unfolding refused_rows
  refused_none rows row good =
      refused_apart rows (row ∷ []) ∙ ap (λ (l : List (ℕ × Refusal)). refused_rows plan width rows ++ map (later_by (length rows)) l) (one_more 1 row [] ∙ ap (λ (o : Option Refusal). with_refusal o 1 []) good)
      ∙ append-nil (refused_rows plan width rows)

  pub refused_some : (rows : Table) (row : List (List ℕ)) (why : Refusal) → refusal plan width row ≡ Some why → length (refused_rows plan width (rows ++ row ∷ [])) ≡ length (refused_rows plan width rows) + 1
  unfolding refused_rows
  refused_some rows row why bad =
      ap length (refused_apart rows (row ∷ []) ∙ ap (λ (l : List (ℕ × Refusal)). refused_rows plan width rows ++ map (later_by (length rows)) l) (one_more 1 row [] ∙ ap (λ (o : Option Refusal). with_refusal o 1 []) bad))
      ∙ length-append (refused_rows plan width rows) ((1 + length rows, why) ∷ [])

  -- rows of which none is refused
  accepted_one : (row : List (List ℕ)) → is_good plan width row ≡ true → refusal plan width row ≡ None
  accepted_one row good = go (refusal plan width row) good
    where
      go : (o : Option Refusal) → is_none o ≡ true → o ≡ None
      go None is = refl
      go (Some why) is = let bad : false ≡ true = is in cc bad

  good_from : (n : ℕ) (more : Table) → list_all (is_good plan width) more ≡ true → refused_from n more ≡ []
  good_from n [] good = refl
  good_from n (x ∷ more) good =
      let both = both_of (is_good plan width x) (list_all (is_good plan width) more) good in
      one_more n x more ∙ ap (λ (o : Option Refusal). with_refusal o n (refused_from (n + 1) more)) (accepted_one x both.0) ∙ good_from (n + 1) more both.1

  pub refused_good : (rows more : Table) → list_all (is_good plan width) more ≡ true → refused_rows plan width (rows ++ more) ≡ refused_rows plan width rows
  unfolding refused_rows
  refused_good rows more good =
      refused_apart rows more ∙ ap (λ (l : List (ℕ × Refusal)). refused_rows plan width rows ++ map (later_by (length rows)) l) (good_from 1 more good) ∙ append-nil (refused_rows plan width rows)

module _ (o : Opened) (bound : Plan) where
  -- no row
  pub count_none : (t n : Tally) (rows : Table) (more : Table) → more ≡ [] → n.rows ≡ t.rows → n.count ≡ t.count → n.first ≡ t.first → HasCounted o bound t rows → HasCounted o bound n (rows ++ more)
  count_none t n rows more none same_rows same_count same_first has =
      subst (HasCounted o bound n) (sym (ap (λ (l : Table). rows ++ l) none ∙ append-nil rows)) (record {
        number = same_rows ∙ has.number;
        few = omega (arith, has.few, same_rows);
        count = same_count ∙ has.count;
        most = omega (arith, has.most, same_count);
        first = subst (IsFirst o bound rows) (sym same_first) has.first;
      })

  first_good : (rows : Table) (row : List (List ℕ)) (f : Option RefusedRow) → refusal bound (length o.header) row ≡ None → IsFirst o bound rows f → IsFirst o bound (rows ++ row ∷ []) f
  first_good rows row None good is = refused_none bound (length o.header) rows row good ∙ is
  first_good rows row (Some r) good is = is

  -- a good row
  pub count_good : (t n : Tally) (rows more : Table) (row : List (List ℕ)) → more ≡ row ∷ [] → refusal bound (length o.header) row ≡ None → n.rows ≡ t.rows + 1 → t.rows < 2 ^ 50 → n.count ≡ t.count → n.first ≡ t.first → HasCounted o bound t rows
      → HasCounted o bound n (rows ++ more)
  count_good t n rows more row one good next few same_count same_first has =
      subst (λ (l : Table). HasCounted o bound n (rows ++ l)) (sym one) (record {
        number = omega (arith, next, has.number, length-append rows (row ∷ []));
        few = omega (arith, few, next);
        count = same_count ∙ has.count ∙ sym (ap length (refused_none bound (length o.header) rows row good));
        most = omega (arith, has.most, same_count);
        first = subst (IsFirst o bound (rows ++ row ∷ [])) (sym same_first) (first_good rows row t.first good has.first);
      })

  -- a row that is left out
  pub count_out : (t n : Tally) (rows more : Table) (row : List (List ℕ)) (why : Refusal) → more ≡ row ∷ [] → refusal bound (length o.header) row ≡ Some why → n.rows ≡ t.rows + 1 → t.rows < 2 ^ 50 → n.count ≡ t.count + 1 → t.count < o.most
      → IsFirst o bound (rows ++ row ∷ []) n.first → HasCounted o bound t rows → HasCounted o bound n (rows ++ more)
  count_out t n rows more row why one bad next few counted less first has =
      subst (λ (l : Table). HasCounted o bound n (rows ++ l)) (sym one) (record {
        number = omega (arith, next, has.number, length-append rows (row ∷ []));
        few = omega (arith, few, next);
        count = omega (arith, counted, has.count, refused_some bound (length o.header) rows row why bad);
        most = omega (arith, less, counted);
        first = first;
      })

  -- no row is known to be refused
  pub no_first : (rows : Table) (f : Option RefusedRow) → is_some f ≡ false → IsFirst o bound rows f → refused_rows bound (length o.header) rows ≡ []
  no_first rows None none is = is
  no_first rows (Some r) none is = let bad : true ≡ false = none in cc bad

  -- one is known now
  pub known_first : (t : Tally) (rows : Table) (r : RefusedRow) → HasCounted o bound t rows → Tells (of_text o.query.reading) o.query o.from (stop.Refused r) → HasCounted o bound (record t { first = Some r }) rows
  known_first t rows r has tells = record { number = has.number; few = has.few; count = has.count; most = has.most; first = tells }

  -- it stays
  pub first_later : (rows more : Table) (f : Option RefusedRow) → is_some f ≡ true → IsFirst o bound rows f → IsFirst o bound more f
  first_later rows more None some is = let bad : false ≡ true = some in cc bad
  first_later rows more (Some r) some is = is

  first_all : (rows more : Table) (f : Option RefusedRow) → list_all (is_good bound (length o.header)) more ≡ true → IsFirst o bound rows f → IsFirst o bound (rows ++ more) f
  first_all rows more None good is = refused_good bound (length o.header) rows more good ∙ is
  first_all rows more (Some r) good is = is

  -- good rows
  pub count_all : (t n : Tally) (rows more : Table) → list_all (is_good bound (length o.header)) more ≡ true → n.rows ≡ t.rows + length more → n.rows ≤ 2 ^ 50 → n.count ≡ t.count → n.first ≡ t.first → HasCounted o bound t rows → HasCounted o bound n (rows ++ more)
  count_all t n rows more good next few same_count same_first has = record {
    number = omega (arith, next, has.number, length-append rows more);
    few = few;
    count = same_count ∙ has.count ∙ sym (ap length (refused_good bound (length o.header) rows more good));
    most = omega (arith, has.most, same_count);
    first = subst (IsFirst o bound (rows ++ more)) (sym same_first) (first_all rows more t.first good has.first);
  }

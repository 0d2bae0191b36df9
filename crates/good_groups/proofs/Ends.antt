-- What was left out of all rows, and that there are too many.
use Rattle.std.proofs.Common.{◌≡◌, ◌<◌, ◌≤◌, ◌++◌, ◌∙◌, ℕ, List, [], ◌∷◌, Option, None, Some, IfSome, ap, arith, length, length-append, map, refl, subst, sym}
use Rattle.csv_rows.specs.Readings.{records_as}
use Rattle.par_model.specs.Plan.{Plan}
use Rattle.par_model.specs.Refuse.{refusal, refused_rows}
use Rattle.par_model.specs.declared.refusal.Refusal.{Refusal}
use Rattle.row_blocks.specs.Blocks.{Table}
use Rattle.stream_groups.specs.Reading.{Begins, HasAll}
use Rattle.stream_groups.specs.Ways.{of_text}
use Rattle.stream_groups.specs.declared.stop.RefusedRow.{RefusedRow}
use Rattle.good_groups.specs.Counted.{AreRules, HasCounted, HasTooMany, IsFirst}
use Rattle.good_groups.specs.Good.{IsLeftOut, refused_records}
use Rattle.good_groups.specs.Opened.{Opened}
use Rattle.good_groups.specs.declared.sifter.Rules.{Rules}
use Rattle.good_groups.specs.declared.tally.Tally.{Tally}
use Rattle.good_groups.proofs.Counting.{later_by, refused_apart, refused_some}

no_row : (rows : List (ℕ × Refusal)) → length rows ≡ 0 → rows ≡ []
no_row [] none = refl
no_row (x ∷ rows) none = absurd (omega (arith, none))

module _ (o : Opened) (r : Rules) (are : AreRules o r) (rows : Table) (t : Tally) (has : HasCounted o r.bound.now t rows) where
  abbrev refused : List (ℕ × Refusal)
  refused = refused_rows r.bound.now (length o.header) rows

  all_refused : (bytes : List ℕ) → records_as o.query.reading bytes ≡ o.header ∷ rows → refused_records o.query (records_as o.query.reading bytes) ≡ refused
  all_refused bytes all = ap (refused_records o.query) all ∙ ap (λ (b : Plan). refused_rows b (length o.header) rows) (sym are.bound.is)

  none_refused : t.count ≡ 0 → (from : Option (List ℕ)) → HasAll o.query.reading from (o.header ∷ rows) → IfSome from (λ bytes. refused_records o.query (records_as o.query.reading bytes) ≡ [])
  none_refused none None all = tt
  none_refused none (Some bytes) all = all_refused bytes all ∙ no_row refused (sym has.count ∙ none)

  some_refused : (from : Option (List ℕ)) → HasAll o.query.reading from (o.header ∷ rows) → IfSome from (λ bytes. length (refused_records o.query (records_as o.query.reading bytes)) ≡ t.count)
  some_refused None all = tt
  some_refused (Some bytes) all = ap length (all_refused bytes all) ∙ sym has.count

  -- nothing
  pub left_none : t.count ≡ 0 → HasAll o.query.reading o.from (o.header ∷ rows) → IsLeftOut (of_text o.query.reading) o.query o.most o.from None
  left_none none all = record { none = λ e. none_refused none o.from all; some = tt }

  -- some rows
  pub left_some : (first : RefusedRow) → (t.count ≡ 0 → ⊥) → t.first ≡ Some first → HasAll o.query.reading o.from (o.header ∷ rows) → IsLeftOut (of_text o.query.reading) o.query o.most o.from (Some (record { count = t.count; first = first }))
  left_some first some is all = record {
    none = λ e. cc e;
    some = (omega (arith, some), has.most, subst (IsFirst o r.bound.now rows) is has.first, some_refused o.from all);
  }

-- a row more is refused than may be left out
pub too_many : (o : Opened) (r : Rules) (t : Tally) (rows more : Table) (row : List (List ℕ)) (why : Refusal) → AreRules o r → HasCounted o r.bound.now t rows → o.most ≤ t.count → more ≡ row ∷ [] → refusal r.bound.now (length o.header) row ≡ Some why
    → Begins o.query.reading o.from (o.header ∷ (rows ++ more)) → HasTooMany o
too_many o r t rows more row why are has full one bad begins = go o.from begins
  where
    go : (from : Option (List ℕ)) → Begins o.query.reading from (o.header ∷ (rows ++ more)) → IfSome from (λ bytes. o.most < length (refused_records o.query (records_as o.query.reading bytes)))
    go None b = tt
    go (Some bytes) b =
        let plan = r.bound.now in
        let width = length o.header in
        let front = refused_rows plan width (rows ++ row ∷ []) in
        let back = map (later_by (length (rows ++ row ∷ []))) (refused_rows plan width b.0) in
        let is : refused_records o.query (records_as o.query.reading bytes) ≡ front ++ back =
        ap (refused_records o.query) b.1 ∙ ap (λ (p : Plan). refused_rows p width ((rows ++ more) ++ b.0)) (sym are.bound.is) ∙ ap (λ (l : Table). refused_rows plan width ((rows ++ l) ++ b.0)) one ∙ refused_apart plan width (rows ++ row ∷ []) b.0 in
        omega (arith, ap length is, length-append front back, refused_some plan width rows row why bad, has.count, full)

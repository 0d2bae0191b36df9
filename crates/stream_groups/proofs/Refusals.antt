-- A row that is refused in a window, among all rows of a source.
use Rattle.std.proofs.Common.{◌≡◌, ◌<◌, ◌≤◌, ◌+◌, ◌-◌, ◌^◌, ◌++◌, ◌⊎◌, ◌∙◌, inl, inr, ℕ, zero, suc, Bool, true, false, List, [], ◌∷◌, Option, None, Some, IfSome, All, length, take, refl, ap, sym, subst, arith, append-nil, length-append}
use Rattle.std.specs.Prelude.{string_bytes}
use Rattle.std.proofs.lemmas.List.Elements.{All-append, All-same}
use Rattle.csv_rows.specs.Readings.{records_as}
use Rattle.csv_rows.specs.Records.{record_at}
use Rattle.csv_rows.specs.declared.cleaning.Reading.{Reading}
use Rattle.par_model.specs.Named.{bound_plan, missing_name}
use Rattle.par_model.specs.Columns.{HasColumns}
use Rattle.par_model.specs.Outcome.{NoColumn, Refused, Table as IsTable, by_missing, by_refused}
use Rattle.par_model.specs.Plan.{Plan}
use Rattle.par_model.specs.Refuse.{refusal, refused_rows}
use Rattle.par_model.specs.declared.refusal.Refusal.{Refusal}
use Rattle.partial_agg.specs.Rows.{IsAccepted, header_width}
use Rattle.partial_agg.specs.declared.map.BlockAnswer.{BlockAnswer}
use Rattle.partial_agg.specs.declared.map.BlockAnswer.TheVariants as answer
use Rattle.plan_spec.specs.Query.{Query}
use Rattle.row_blocks.specs.Blocks.{Table}
use Rattle.row_windows.specs.Stretch.{Stretch}
use Rattle.split_run.specs.Causes.{IsFirstCause, IsLow}
use Rattle.split_run.specs.Pieces.{AreUnder, HaveColumns, rows_of}
use Rattle.table_query.specs.Refused.{refused_in}
use Rattle.table_query.proofs.RefusedRows.{refused_first, refused_in-none}
use Rattle.stream_groups.specs.Begins.{IsLined, PlacesRow, lines_of}
use Rattle.stream_groups.specs.Outcome.{outcome, outcome_over}
use Rattle.stream_groups.specs.Reading.{Begins, HasAll, HasPart, IsBound, Reaches}
use Rattle.stream_groups.specs.Said.{row_says}
use Rattle.stream_groups.specs.Stops.{IsRefusedRow, NamesFirstRow, Restates, SaysOfHeader, SaysOfRow, Tells}
use Rattle.stream_groups.specs.Ways.{of_text}
use Rattle.stream_groups.specs.declared.stop.Stop.{Stop}
use Rattle.stream_groups.specs.declared.stop.Stop.TheVariants as stop
use Rattle.stream_groups.proofs.Found.{row_there, some_lines}
use Rattle.stream_groups.proofs.Places.{row_place}

pub begins : (reading : Reading) (from left : Option (List ℕ)) (records : Table) (feeds : ℕ) (rest : List ℕ) (is_last : Bool) → Reaches reading from left records feeds rest is_last → Begins reading from records
begins reading None left records feeds rest is_last r = tt
begins reading (Some bytes) left records feeds rest true r = ([], r.all refl ∙ sym (append-nil records))
begins reading (Some bytes) None records feeds rest false r = absurd (r.more refl)
begins reading (Some bytes) (Some left) records feeds rest false r = (records_as reading (rest ++ left), (r.more refl).parts)

take_front : (ws more : Table) (k : ℕ) → k ≤ length ws → take k (ws ++ more) ≡ take k ws
take_front [] more zero h = refl
take_front [] more (suc k) h = absurd (omega (arith, h))
take_front (w ∷ ws) more zero h = refl
take_front (w ∷ ws) more (suc k) h = ap (λ (l : Table). w ∷ l) (take_front ws more k (omega (arith, h)))

-- the first rows of all that stand before a place of a window, with the rows before the window
front_is : (rows wrows more : Table) (k : ℕ) → k ≤ length wrows → take (length rows + k) ((rows ++ wrows) ++ more) ≡ rows ++ take k wrows
front_is [] wrows more k h =
    let e : length {A = List (List ℕ)} [] + k ≡ k = omega arith in
    ap (λ n. take n (wrows ++ more)) e ∙ take_front wrows more k h
front_is (x ∷ rows) wrows more k h =
    let e : length (x ∷ rows) + k ≡ suc (length rows + k) = omega arith in
    ap (λ n. take n (((x ∷ rows) ++ wrows) ++ more)) e ∙ ap (λ (l : Table). x ∷ l) (front_is rows wrows more k h)

module _ (reading : Reading) (query : Query) where
  -- no record
  pub none_tells : (from : Option (List ℕ)) → HasAll reading from [] → Tells (of_text reading) query from stop.NoHeader
  none_tells None all = tt
  none_tells (Some bytes) all = ap (outcome query.plan) all

  lacks : (from : Option (List ℕ)) (records : Table) (name : List ℕ) → Begins reading from records → 0 < length records → missing_name (record_at records 0) query.plan ≡ Some name
      → IfSome from (λ bytes. (outcome_over (of_text reading) query.plan bytes ≡ NoColumn name) × (record_at (records_as reading bytes) 0 ≡ record_at records 0))
  lacks None records name b some m = tt
  lacks (Some bytes) [] name b some m = absurd (omega (arith, some))
  lacks (Some bytes) (header ∷ rows) name b some m =
      (ap (outcome query.plan) b.1 ∙ ap (by_missing query.plan header (rows ++ b.0)) m, ap (λ (l : Table). record_at l 0) b.1)

  here_twice : (from : Option (List ℕ)) (records : Table) → Begins reading from records → 0 < length records → IfSome from (λ bytes. record_at (records_as reading bytes) 0 ≡ record_at records 0)
  here_twice None records b some = tt
  here_twice (Some bytes) [] b some = absurd (omega (arith, some))
  here_twice (Some bytes) (header ∷ rows) b some = ap (λ (l : Table). record_at l 0) b.1

  -- a column that the header lacks, or has twice
  pub missing_tells : (from : Option (List ℕ)) (records : Table) (why : Stop) → Begins reading from records → 0 < length records
      → SaysOfHeader query.plan (record_at records 0) why → Tells (of_text reading) query from why
  missing_tells from records why b some (inl e) = subst (Tells (of_text reading) query from) (sym e) tt
  missing_tells from records why b some (inr (inl m)) =
      subst (Tells (of_text reading) query from) (sym m.1) (record { name = m.2.name; header = record_at records 0; says = m.2.says; lacks = lacks from records m.2.name b some m.2.lacks })
  missing_tells from records why b some (inr (inr m)) =
      subst (Tells (of_text reading) query from) (sym m.1) (record { header = record_at records 0; says = m.2; whole = m.3; is = here_twice from records b some })

module _ (query : Query) (header : List (List ℕ)) (bound : Plan) (is : IsBound query header bound) where
  pub outcome_rows : (rows : Table) → outcome query.plan (header ∷ rows) ≡ by_refused (refused_in bound (header ∷ rows))
  outcome_rows rows = ap (by_missing query.plan header rows) is.whole ∙ ap (λ (b : Plan). by_refused (refused_rows b (length header) rows)) (sym is.is)

  -- rows of which none is refused
  pub accepted_table : (rows : Table) → All (IsAccepted bound (length header)) rows → outcome query.plan (header ∷ rows) ≡ IsTable
  accepted_table rows accepted = outcome_rows rows ∙ ap by_refused (refused_in-none bound (header ∷ rows) accepted)

  module _ (rows wrows more : Table) (row : ℕ) (why : Refusal) (some : 1 ≤ row) (within : row < length (header ∷ wrows)) (cause : refusal bound (length header) (record_at (header ∷ wrows) row) ≡ Some why) where
    abbrev all : Table
    all = header ∷ ((rows ++ wrows) ++ more)

    abbrev number : ℕ
    number = length rows + row

    low : number < length all
    low = omega (arith, within, length-append (rows ++ wrows) more, length-append rows wrows)

    is_refused : refusal bound (length header) (record_at all number) ≡ Some why
    is_refused = ap (refusal bound (length header)) (row_there header rows wrows more row some within) ∙ cause

    -- where no row of the window before it is refused, nor one before the window
    pub first_is : All (IsAccepted bound (length header)) rows → All (IsAccepted bound (length header)) (take (row - 1) wrows) → (rest : List (ℕ × Refusal)) × (refused_in bound all ≡ (number, why) ∷ rest)
    first_is before here =
        let k = row - 1 in
        let n = length rows + k in
        let short : k < length wrows = omega (arith, some, within) in
        let place : n + 1 ≡ number = omega (arith, some) in
        let front : take n ((rows ++ wrows) ++ more) ≡ rows ++ take k wrows = front_is rows wrows more k (omega (arith, short)) in
        let accepted : All (IsAccepted bound (length header)) (take n ((rows ++ wrows) ++ more)) =
        All-same (IsAccepted bound (length header)) (take n ((rows ++ wrows) ++ more)) (rows ++ take k wrows) front (All-append (IsAccepted bound (length header)) rows (take k wrows) before here) in
        let found = refused_first bound all n why (omega (arith, place, low)) accepted (subst (λ m. refusal bound (length header) (record_at all m) ≡ Some why) (sym place) is_refused) in
        (found.0, subst (λ m. refused_in bound all ≡ (m, why) ∷ found.0) place found.1)

  -- a row of some windows is in its place, if they are a part of what was read
  place_told : (from left : Option (List ℕ)) (rows : Table) (feeds : ℕ) (pieces : List Stretch) (rest : List ℕ) (row number line : ℕ) (why : Refusal) (said : List ℕ) → number ≡ length rows + row → All (IsLined query.reading) pieces
      → (0 < length (lines_of pieces) → HasPart query.reading from left (header ∷ rows) feeds pieces rest) → (r : SaysOfRow query.plan bound pieces row feeds why line said) → IfSome from (λ bytes. PlacesRow bytes number line (string_bytes r.place.quote))
  place_told None left rows feeds pieces rest row number line why said number_is lined part r = tt
  place_told (Some bytes) left rows feeds pieces rest row number line why said number_is lined part r = by left (part (some_lines pieces r.piece r.is.at r.within r.is.begins.within))
    where
      by : (left : Option (List ℕ)) → HasPart query.reading (Some bytes) left (header ∷ rows) feeds pieces rest → PlacesRow bytes number line (string_bytes r.place.quote)
      by None part = absurd part
      by (Some left) part =
          let here = row_place query.reading bytes (header ∷ rows) feeds pieces (rest ++ left) part lined r.piece r.within row r.at number r.place r.some r.high r.number (omega (arith, number_is)) r.is in
          subst (λ (n : ℕ). PlacesRow bytes number n (string_bytes r.place.quote)) (sym r.line) here

  -- an answer on some windows tells of the outcome
  pub refused_tells : (from left : Option (List ℕ)) (before : ℕ) (rows : Table) (feeds : ℕ) (pieces : List Stretch) (rest : List ℕ) (why : BlockAnswer) (said : Stop) → before ≡ length rows → before ≤ 2 ^ 50 → IsLow why
      → Begins query.reading from (header ∷ (rows ++ rows_of pieces)) → (0 < length (lines_of pieces) → HasPart query.reading from left (header ∷ rows) feeds pieces rest) → All (IsLined query.reading) pieces → All (IsAccepted bound (length header)) rows → AreUnder header pieces
      → IsFirstCause bound (header ∷ rows_of pieces) why → Restates query.reading query.plan bound pieces before feeds why said → Tells (of_text query.reading) query from said
  refused_tells from left before rows feeds pieces rest answer.Memory said is_before few low b part lined accepted under c restated = subst (Tells (of_text query.reading) query from) (sym restated) tt
  refused_tells from left before rows feeds pieces rest (answer.Row row cause item) said is_before few low b part lined accepted under c restated = by (restated (omega (arith, few, low)))
    where
      wrows : Table
      wrows = rows_of pieces

      fields : List (List ℕ)
      fields = record_at (header ∷ wrows) row

      why : Refusal
      why = record { cause = cause; item = item }

      whole : (bytes : List ℕ) (more : Table) → records_as query.reading bytes ≡ header ∷ ((rows ++ wrows) ++ more) → outcome_over (of_text query.reading) query.plan bytes ≡ by_refused (refused_in bound (header ∷ ((rows ++ wrows) ++ more)))
      whole bytes more e = ap (outcome query.plan) e ∙ outcome_rows ((rows ++ wrows) ++ more)

      number : length rows + row ≡ before + row
      number = ap (λ n. n + row) (sym is_before)

      first_told : (from : Option (List ℕ)) → Begins query.reading from (header ∷ (rows ++ wrows)) → IfSome from (λ bytes. (others : List (ℕ × Refusal)) × (outcome_over (of_text query.reading) query.plan bytes ≡ Refused ((before + row, why) ∷ others)))
      first_told None b = tt
      first_told (Some bytes) b =
          let f = first_is rows wrows b.0 row why c.refused.first c.refused.within c.refused.cause_is accepted c.before in
          (f.0, whole bytes b.0 b.1 ∙ ap by_refused (subst (λ n. refused_in bound (header ∷ ((rows ++ wrows) ++ b.0)) ≡ (n, why) ∷ f.0) number f.1))

      are_told : (from : Option (List ℕ)) → Begins query.reading from (header ∷ (rows ++ wrows)) → IfSome from (λ bytes. (record_at (records_as query.reading bytes) 0 ≡ header) × (record_at (records_as query.reading bytes) (before + row) ≡ fields))
      are_told None b = tt
      are_told (Some bytes) b =
          let there : record_at (header ∷ ((rows ++ wrows) ++ b.0)) (before + row) ≡ fields =
          subst (λ n. record_at (header ∷ ((rows ++ wrows) ++ b.0)) n ≡ fields) number (row_there header rows wrows b.0 row c.refused.first c.refused.within) in
          (ap (λ (l : Table). record_at l 0) b.1, ap (λ (l : Table). record_at l (before + row)) b.1 ∙ there)

      by : IsRefusedRow query.reading query.plan bound pieces (before + row) row feeds why said ⊎ (said ≡ stop.Memory) → Tells (of_text query.reading) query from said
      by (inr e) = subst (Tells (of_text query.reading) query from) (sym e) tt
      by (inl r) =
          let one = r.0 in
          let of = r.2 in
          let quote = string_bytes of.says.place.quote in
          let text : string_bytes one.said ≡ row_says query.plan (bound_plan header query.plan) header fields why ++ quote =
          of.says.says header under ∙ ap (λ (p : Plan). row_says query.plan p header fields why ++ quote) is.is in
          let names : NamesFirstRow (of_text query.reading) query from (before + row) one.line why one.header.items (string_bytes one.said) = record {
            header = header;
            one = of.header header under;
            fields = fields;
            quote = quote;
            says = text;
            places = place_told from left rows feeds pieces rest row (before + row) one.line why (string_bytes one.said) (sym number) lined part of.says;
            first = first_told from b;
            are = are_told from b;
          } in
          subst (Tells (of_text query.reading) query from) (sym r.1)
          (subst (λ (n : ℕ). NamesFirstRow (of_text query.reading) query from n one.line one.why one.header.items (string_bytes one.said)) (sym of.row)
          (subst (λ (w : Refusal). NamesFirstRow (of_text query.reading) query from (before + row) one.line w one.header.items (string_bytes one.said)) (sym of.why) names))

  -- the columns of the plan are in each window that has the header
  pub have_columns : (pieces : List Stretch) → AreUnder header pieces → HaveColumns bound pieces
  have_columns pieces under = λ k d low. subst (λ (w : ℕ). HasColumns bound w) (sym (ap header_width (under k d low))) is.columns

-- What is said of the row of a line.
use Rattle.std.proofs.Common.{◌≡◌, inl, inr, ◌+◌, ◌++◌, ◌∙◌, ℕ, Bool, true, List, [], ◌∷◌, Option, Some, ap, append-nil, arith, drop, length, map, refl, string_bytes, subst, sym}
use Rattle.std.specs.Prelude.{◌==◌}
use Rattle.std.proofs.lemmas.List.Elements.{All-cons, All-nil}
use Rattle.csv_rows.specs.Cuts.{IsCut}
use Rattle.csv_rows.specs.Readings.{IsSeparator, exchanged, records_as, records_in}
use Rattle.csv_rows.specs.Records.{record_at}
use Rattle.par_model.specs.Refuse.{refusal, refused_rows}
use Rattle.par_model.specs.declared.refusal.Refusal.{Refusal}
use Rattle.partial_agg.specs.Rows.{IsAccepted}
use Rattle.partial_agg.specs.declared.map.BlockAnswer.TheVariants as answer
use Rattle.row_blocks.specs.Blocks.{Table}
use Rattle.row_windows.specs.Seams.{BeginsLine}
use Rattle.row_windows.specs.Stretch.{Stretch}
use Rattle.split_run.specs.Causes.{IsFirstCause}
use Rattle.split_run.specs.Pieces.{AreUnder, piece_records, piece_rows, rows_of}
use Rattle.text_lines.specs.Feeds.{count_feeds}
use Rattle.text_lines.proofs.Counts.{count_none}
use Rattle.stream_groups.specs.Begins.{IsLined, IsPlaceIn}
use Rattle.stream_groups.specs.Reading.{Begins}
use Rattle.stream_groups.specs.Said.{row_says}
use Rattle.stream_groups.specs.Stops.{AreOfRow, Tells}
use Rattle.stream_groups.specs.Ways.{of_text}
use Rattle.stream_groups.specs.declared.place.Place.{Place}
use Rattle.stream_groups.specs.declared.stop.RefusedRow.{RefusedRow}
use Rattle.stream_groups.specs.declared.stop.Stop.TheVariants as stop
use Rattle.stream_groups.proofs.ReadAs.{in_again}
use Rattle.stream_groups.proofs.Refusals.{refused_tells}
use Rattle.stream_groups.proofs.Streams.{records_behind}
use Rattle.good_groups.specs.Counted.{AreOfLine, AreRules, HasCounted, IsNext, line_stretch}
use Rattle.good_groups.specs.Opened.{Opened}
use Rattle.good_groups.specs.declared.sifter.Rules.{Rules}
use Rattle.good_groups.specs.declared.tally.Tally.{Tally}
use Rattle.good_groups.proofs.Counting.{all_accepted}

-- one record
pub alone : (rows : Table) → length rows ≡ 1 → rows ≡ record_at rows 0 ∷ []
alone [] size = absurd (omega (arith, size))
alone (x ∷ []) size = refl
alone (x ∷ y ∷ rows) size = absurd (omega (arith, size))

module _ (r : Rules) (line : List ℕ) (begins : BeginsLine line) (header_one : length (records_as r.plan.now.reading r.header.now) ≡ 1) (cut : IsCut r.header.now) where
  abbrev w : Stretch
  w = line_stretch r line

  abbrev heading : List (List ℕ)
  heading = record_at (records_as r.plan.now.reading r.header.now) 0

  pub stretch_records : piece_records w ≡ heading ∷ records_as r.plan.now.reading line
  stretch_records = records_behind r.plan.now.reading r.header.now line (records_as r.plan.now.reading r.header.now) cut begins refl header_one

  pub stretch_rows : piece_rows w ≡ records_as r.plan.now.reading line
  stretch_rows = ap (drop 1) stretch_records

  pub stretch_all : rows_of (w ∷ []) ≡ records_as r.plan.now.reading line
  stretch_all = append-nil (piece_rows w) ∙ stretch_rows

  pub stretch_under : AreUnder heading (w ∷ [])
  stretch_under = All-cons (λ (p : Stretch). piece_records p ≡ heading ∷ piece_rows p) w [] (stretch_records ∙ ap (λ (l : Table). heading ∷ l) (sym stretch_rows)) (All-nil (λ (p : Stretch). piece_records p ≡ heading ∷ piece_rows p))

  under_heading : (header : List (List ℕ)) → AreUnder header (w ∷ []) → header ≡ heading
  under_heading header under = ap (λ (l : Table). record_at l 0) (sym (under 0 w (omega arith)) ∙ stretch_records)

  pub stretch_lined : IsLined r.plan.now.reading w
  stretch_lined = record {
    reading_is = refl;
    begins = inr begins;
    rows = stretch_rows;
    one = alone (records_as r.plan.now.reading r.header.now) header_one ∙ ap (λ (l : Table). record_at l 0 ∷ []) (sym stretch_records);
  }

  module _ (one : length (records_as r.plan.now.reading line) ≡ 1) where
    abbrev fields : List (List ℕ)
    fields = record_at (records_as r.plan.now.reading line) 0

    pub line_says : (row feeds : ℕ) (why : Refusal) (told : RefusedRow) (place : Place) → IsSeparator r.plan.now.reading.separator → told.row ≡ row → told.why ≡ why → told.line ≡ place.line
        → told.header.items ≡ map (exchanged r.plan.now.reading.separator) r.header.now → string_bytes told.said ≡ row_says r.plan.now.plan r.bound.now heading fields why ++ string_bytes place.quote
        → IsPlaceIn line 0 true feeds place → AreOfRow r.plan.now.reading r.plan.now.plan r.bound.now (w ∷ []) row 1 feeds why told
    line_says row feeds why told place sep is_row is_why is_line is_header says is =
        let reading = r.plan.now.reading in
        let many : length (piece_rows w) ≡ 1 = ap length stretch_rows ∙ one in
        let last : (1 == length (piece_rows w)) ≡ true = ap (λ (n : ℕ). 1 == n) many in
        let none : feeds + count_feeds [] ≡ feeds = omega (arith, count_none) in
        record {
          row = is_row;
          why = is_why;
          header = λ header under.
              ap (records_in reading) is_header ∙ in_again reading r.header.now sep ∙ alone (records_as reading r.header.now) header_one ∙ ap (λ (h : List (List ℕ)). h ∷ []) (sym (under_heading header under));
          says = record {
            piece = 0;
            at = 1;
            place = place;
            within = omega arith;
            some = omega arith;
            high = omega (arith, many);
            number = refl;
            is = subst (λ (b : Bool). IsPlaceIn line 0 b (feeds + count_feeds []) place) (sym last) (subst (λ (n : ℕ). IsPlaceIn line 0 true n place) (sym none) is);
            line = is_line;
            says = λ header under.
                says ∙ ap (λ (h : List (List ℕ)). row_says r.plan.now.plan r.bound.now h fields why ++ string_bytes place.quote) (sym (under_heading header under))
                ∙ ap (λ (l : Table). row_says r.plan.now.plan r.bound.now header (record_at l 0) why ++ string_bytes place.quote) (sym stretch_all);
          };
        }

    -- the first row that is refused is told
    pub line_tells : (o : Opened) (left : Option (List ℕ)) (t : Tally) (rows : Table) (rest : List ℕ) (why : Refusal) (told : RefusedRow) → AreRules o r → IsNext o left r t.feeds rows line rest
        → HasCounted o r.bound.now t rows → refused_rows r.bound.now (length o.header) rows ≡ [] → refusal r.bound.now r.width fields ≡ Some why → AreOfLine r line (t.rows + 1) t.feeds why told → Tells (of_text o.query.reading) o.query o.from (stop.Refused told)
    line_tells o left t rows rest why told are next has none bad of =
        let query = r.plan.now in
        let same : o.header ≡ heading = ap (λ (l : Table). record_at l 0) (sym are.one) ∙ ap (λ (q : _). record_at (records_as q.reading r.header.now) 0) (sym are.query) in
        let under : AreUnder o.header (w ∷ []) = subst (λ (h : List (List ℕ)). AreUnder h (w ∷ [])) (sym same) stretch_under in
        let all : rows_of (w ∷ []) ≡ records_as o.query.reading line = stretch_all ∙ ap (λ (q : _). records_as q.reading line) are.query in
        let begun : Begins o.query.reading o.from (o.header ∷ (rows ++ rows_of (w ∷ []))) = subst (λ (l : Table). Begins o.query.reading o.from (o.header ∷ (rows ++ l))) (sym all) next.begins in
        let size : length (rows_of (w ∷ [])) ≡ 1 = ap length stretch_all ∙ one in
        let at : record_at (o.header ∷ rows_of (w ∷ [])) 1 ≡ fields = ap (λ (l : Table). record_at l 0) stretch_all in
        let cause : IsFirstCause r.bound.now (o.header ∷ rows_of (w ∷ [])) (answer.Row 1 why.cause why.item) = record {
          refused = record {
            first = omega arith;
            within = omega (arith, size);
            cause_is = ap (refusal r.bound.now (length o.header)) at ∙ ap (λ (n : ℕ). refusal r.bound.now n fields) (sym are.width) ∙ bad;
          };
          before = All-nil (IsAccepted r.bound.now (length o.header));
        } in
        refused_tells o.query o.header r.bound.now are.bound o.from left t.rows rows t.feeds (w ∷ []) rest (answer.Row 1 why.cause why.item) (stop.Refused told) has.number has.few (omega arith) begun (λ _. next.part)
        (All-cons (IsLined o.query.reading) w [] (subst (λ (q : _). IsLined q.reading w) are.query stretch_lined) (All-nil (IsLined o.query.reading))) (all_accepted r.bound.now (length o.header) rows none) under cause
        (λ _. inl (told, refl, subst (λ (q : _). AreOfRow q.reading q.plan r.bound.now (w ∷ []) (t.rows + 1) 1 t.feeds why told) are.query (of cut)))

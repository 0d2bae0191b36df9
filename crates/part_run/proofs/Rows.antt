-- The rows of a piece, one after another, in the lists of a participant.
use Rattle.std.proofs.Common.{◌≡◌, ◌<◌, ◌≤◌, ◌+◌, ◌++◌, ◌∙◌, ℕ, ℤ, false, cond, List, [], ◌∷◌, None, Option, Some, drop, get_or, length, map, take, ap, sym, arith, length-drop}
use Rattle.std.proofs.lemmas.List.{take_all, take_more}
use Rattle.csv_rows.specs.Records.{record_at}
use Rattle.par_model.specs.Keep.{is_kept}
use Rattle.par_model.specs.Plan.{Plan}
use Rattle.par_model.specs.Refuse.{refusal}
use Rattle.partial_agg.specs.Blocks.{ExplainsRow}
use Rattle.partial_agg.specs.Reading.{IsKeptAs}
use Rattle.partial_agg.specs.Rows.{header_width}
use Rattle.partial_agg.specs.declared.map.BlockAnswer.{BlockAnswer}
use Rattle.partial_agg.specs.declared.map.BlockAnswer.TheVariants as answer
use Rattle.row_blocks.specs.Blocks.{Table}
use Rattle.row_lists.specs.Carried.{Carried, carried}
use Rattle.row_lists.specs.Parts.{with_row, with_rows}
use Rattle.row_windows.specs.Stretch.{Stretch}
use Rattle.split_run.specs.Causes.{IsCause}
use Rattle.split_run.specs.Pieces.{drawn_rows, piece_rows}
use Rattle.split_run.proofs.Drawn.{one_more}
use Rattle.split_run.proofs.FirstRow.{row_is}
use Rattle.part_run.specs.Carrying.{carried_of, spread}
use Rattle.part_run.proofs.ByPart.{spread-append}

-- ---- one row

pub kept_row : (plan : Plan) (width : ℕ) (row : List (List ℕ)) (key : List ℕ) (values : List (Option ℤ)) (lists new : List (List Carried)) → IsKeptAs plan width row key values
    → new ≡ with_row lists (carried key (take (length plan.items) values)) → new ≡ spread plan lists (row ∷ [])
kept_row plan width row key values lists new kept now =
    now ∙ (λ i. with_row lists (carried (kept.is_key i) (kept.are_values i)))
    ∙ sym (ap (λ b. with_rows lists (map (carried_of plan) (cond b (row ∷ []) []))) kept.counted.1)

pub left_row : (plan : Plan) (row : List (List ℕ)) (lists : List (List Carried)) → is_kept plan row ≡ false → lists ≡ spread plan lists (row ∷ [])
left_row plan row lists out = sym (ap (λ b. with_rows lists (map (carried_of plan) (cond b (row ∷ []) []))) out)

-- ---- the rows of a store

module _ (plan : Plan) (records : Table) where
  next_row : (at : ℕ) → at + 1 < length records → take (at + 1) (drop 1 records) ≡ take at (drop 1 records) ++ record_at records (at + 1) ∷ []
  next_row at low =
      take_more (drop 1 records) at [] (omega (arith, low, length-drop 1 records)) ∙ ap (λ (row : List (List ℕ)). take at (drop 1 records) ++ row ∷ []) (row_is plan records at)

  pub spread_next : (at : ℕ) (row : List (List ℕ)) (start mid new : List (List Carried)) → at + 1 < length records → row ≡ record_at records (at + 1) → mid ≡ spread plan start (take at (drop 1 records))
      → new ≡ spread plan mid (row ∷ []) → new ≡ spread plan start (take (at + 1) (drop 1 records))
  spread_next at row start mid new low is before now =
      now ∙ (λ i. spread plan (before i) (is i ∷ [])) ∙ sym (spread-append plan start (take at (drop 1 records)) (record_at records (at + 1) ∷ [])) ∙ ap (spread plan start) (sym (next_row at low))

  pub spread_all : (at : ℕ) (start new : List (List Carried)) → length records ≤ at + 1 → new ≡ spread plan start (take at (drop 1 records)) → new ≡ spread plan start (drop 1 records)
  spread_all at start new all before = before ∙ ap (spread plan start) (take_all at (drop 1 records) (omega (arith, all, length-drop 1 records)))

  -- a row that stops the reading is refused, if the answer names one
  pub stops_row : (at : ℕ) (row : List (List ℕ)) (why : BlockAnswer) → at + 1 < length records → row ≡ record_at records (at + 1) → ExplainsRow plan (header_width records) row (at + 1) why → IsCause plan records why
  stops_row at row (answer.Row number cause item) low is told = λ accepted.
      let fine : refusal plan (header_width records) (get_or (drop 1 records) at []) ≡ None = accepted at [] (omega (arith, low, length-drop 1 records)) in
      let same : get_or (drop 1 records) at [] ≡ row = row_is plan records at ∙ sym is in
      let both : None ≡ Some (record { cause = cause; item = item }) = sym fine ∙ ap (refusal plan (header_width records)) same ∙ told.1 in
      cc both
  stops_row at row answer.Memory low is told = tt

-- ---- the rows of one piece more

pub spread_piece : (pieces : List Stretch) (n : ℕ) (p : Stretch) (low : n < length pieces) (is : p ≡ get_or pieces n p) (draws draws' : List ℕ) (more : draws' ≡ draws ++ n ∷ []) (plan : Plan) (old mid new : List (List Carried))
    → mid ≡ spread plan old (drawn_rows pieces draws) → new ≡ spread plan mid (piece_rows p) → new ≡ spread plan old (drawn_rows pieces draws')
spread_piece pieces n p low is draws draws' more plan old mid new before this =
    this ∙ ap (λ (ls : List (List Carried)). spread plan ls (piece_rows p)) before ∙ sym (spread-append plan old (drawn_rows pieces draws) (piece_rows p))
    ∙ ap (spread plan old) (sym (one_more pieces n p low is draws draws' more))

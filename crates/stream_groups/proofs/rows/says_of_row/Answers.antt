use Rattle.std.proofs.Common.{◌≡◌, ◌<◌, ◌+◌, ◌-◌, ◌++◌, ◌∷◌, ◌∙◌, ℕ, List, ap, arith, length, length-drop, refl, subst, sym, take}
use Rattle.std.specs.Prelude.{◌==◌}
use Rattle.csv_rows.specs.Records.{record_at, records_of}
use Rattle.row_blocks.specs.Blocks.{Table}
use Rattle.row_windows.specs.Seams.{BeginsLine}
use Rattle.split_run.specs.Pieces.{piece_records, piece_rows, rows_of}
use Rattle.stream_groups.specs.Begins.{IsLined, IsPlaceIn, feeds_of, no_stretch, piece_at}
use Rattle.stream_groups.specs.Said.{row_says}
use Rattle.stream_groups.proofs.Feeds.{feeds_within}
use Rattle.stream_groups.proofs.Found.{begins_if}
use Rattle.stream_groups.proofs.ReadAs.{rows_count}
use Rattle.stream_groups.proofs.rows.says_of_row.Goals as goal

pub overflow_add-feeds : goal.overflow_add-feeds
overflow_add-feeds c = omega (arith, c.requires.few, feeds_within c.args.pieces.now c.in_ok-found.found.piece, c.in_ok-found.ensures.feeds)

pub place_in_lines-requires-clause-line : goal.place_in_lines-requires-clause-line
place_in_lines-requires-clause-line c =
    let found = c.in_ok-found.found in
    let w = piece_at c.args.pieces.now found.piece in
    let reading = c.args.plan.now.reading in
    let lined : IsLined reading w = c.requires.lines found.piece no_stretch c.in_ok-found.ensures.piece in
    let some : 0 < length (piece_rows w) = omega (arith, c.in_ok-found.ensures.within, c.in_ok-found.ensures.some, length-drop 1 (piece_records w), ap (λ (l : Table). length l) c.in_ok-found.ensures.store) in
    subst BeginsLine (sym c.lines_at-lines.ensures) (begins_if reading w lined some)

pub place_in_lines-requires-clause-some : goal.place_in_lines-requires-clause-some
place_in_lines-requires-clause-some c =
    let found = c.in_ok-found.found in
    let w = piece_at c.args.pieces.now found.piece in
    let reading = c.args.plan.now.reading in
    let lined : IsLined reading w = c.requires.lines found.piece no_stretch c.in_ok-found.ensures.piece in
    let same : length (records_of c.lines_at-lines.result.now) ≡ length (piece_rows w) = ap (λ (l : List ℕ). length (records_of l)) c.lines_at-lines.ensures ∙ sym (rows_count reading w lined) in
    omega (arith, same, c.in_ok-found.ensures.within, c.in_ok-found.ensures.some, length-drop 1 (piece_records w), ap (λ (l : Table). length l) c.in_ok-found.ensures.store)

pub place_in_lines-requires-clause-few : goal.place_in_lines-requires-clause-few
place_in_lines-requires-clause-few c = omega (arith, c.requires.few, feeds_within c.args.pieces.now c.in_ok-found.found.piece, c.in_ok-found.ensures.feeds)

pub returns-clause-says : goal.returns-clause-says
returns-clause-says c =
    let plan = c.args.plan.now.plan in
    let bound = c.args.bound.now in
    let pieces = c.args.pieces.now in
    let found = c.in_ok-found.found in
    let is = c.in_ok-found.ensures in
    let place = c.in_ok-place.place in
    let w = piece_at pieces found.piece in
    let size : length found.store ≡ length (piece_records w) = ap (λ (l : Table). length l) is.store in
    let count : c.count-count.result ≡ length (piece_rows w) = omega (arith, c.count-count.ensures.rows, size, length-drop 1 (piece_records w)) in
    let before : c.args.feeds + found.feeds ≡ c.args.feeds + feeds_of (take found.piece pieces) = ap (λ (n : ℕ). c.args.feeds + n) is.feeds in
    let at = found.at in
    let here : IsPlaceIn w.lines (at - 1) (at == length (piece_rows w)) (c.args.feeds + feeds_of (take found.piece pieces)) place =
    subst (λ (f : ℕ). IsPlaceIn w.lines (at - 1) (at == length (piece_rows w)) f place) before
    (subst (λ (n : ℕ). IsPlaceIn w.lines (at - 1) (at == n) (c.args.feeds + found.feeds) place) count
    (subst (λ (l : List ℕ). IsPlaceIn l (at - 1) (at == c.count-count.result) (c.args.feeds + found.feeds) place) c.lines_at-lines.ensures c.in_ok-place.ensures)) in
    record {
      piece = found.piece;
      at = at;
      place = place;
      within = is.piece;
      some = is.some;
      high = omega (arith, is.within, size, length-drop 1 (piece_records w));
      number = is.number;
      is = here;
      line = refl;
      says = λ header under.
          let row = is.row header under in
          c.in_ok-push_str.ensures.bytes
          ∙ (ap (λ (t : List ℕ). t ++ c.as_str.result.now) c.in_ok-text.ensures
          ∙ (ap (λ (h : List (List ℕ)). row_says plan bound h c.find-fields.result c.args.why ++ c.as_str.result.now) (c.find-header.ensures ∙ row.0)
          ∙ (ap (λ (r : List (List ℕ)). row_says plan bound header r c.args.why ++ c.as_str.result.now) (c.find-fields.ensures ∙ row.1)
          ∙ ap (λ (t : List ℕ). row_says plan bound header (record_at (header ∷ rows_of pieces) c.args.row) c.args.why ++ t) c.as_str.ensures.value)));
    }

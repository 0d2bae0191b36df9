use Rattle.std.proofs.Common.{◌≡◌, ◌+◌, ◌∷◌, ◌∙◌, ℕ, ap, arith, length, length-drop, refl, sym, take}
use Rattle.csv_rows.specs.Readings.{records_as}
use Rattle.csv_rows.specs.Records.{record_at}
use Rattle.csv_rows.specs.declared.cleaning.Reading.{Reading}
use Rattle.row_blocks.specs.Blocks.{Table}
use Rattle.row_windows.specs.Stretch.{Stretch}
use Rattle.split_run.specs.Pieces.{piece_records, piece_rows, rows_of}
use Rattle.text_lines.specs.Feeds.{count_feeds}
use Rattle.text_lines.proofs.Counts.{count_none}
use Rattle.stream_groups.specs.Begins.{feeds_of, piece_at}
use Rattle.stream_groups.proofs.Feeds.{feeds_next, feeds_within}
use Rattle.stream_groups.proofs.Found.{count_next, row_in, same_there, under_at}
use Rattle.stream_groups.proofs.refused.find_row.Goals as goal

pub loop-piece-init : goal.loop-piece-init
loop-piece-init c = record { count = refl; few = omega arith; number = refl; feeds = sym count_none }

pub returns-in-Some-clause-within : goal.returns-in-Some-clause-within
returns-in-Some-clause-within c = omega (arith, c.in-Some.ensures.within, c.count.ensures.rows)

pub returns-in-Some-clause-row : goal.returns-in-Some-clause-row
returns-in-Some-clause-row c = λ header under.
    let pieces = c.args.pieces.now in
    let p = c.piece-item.result in
    let i = c.loop-piece.piece-index in
    let at = c.in-Some.place in
    let found = c.in-Some.ensures in
    let same : c.in-Ok.store ≡ piece_records p = c.in-Ok.ensures.records ∙ (ap (λ (r : Reading). records_as r c.table.result.now) c.reading.ensures ∙ ap (records_as p.reading) c.table.ensures) in
    let size : length (piece_rows p) ≡ c.count.result = omega (arith, length-drop 1 (piece_records p), ap length same, c.count.ensures.rows) in
    let here = row_in pieces i p c.loop-piece-test.true c.piece-item.is at found.some (omega (arith, found.within, size)) header under in
    let number : length (rows_of (take i pieces)) + at ≡ c.args.row = omega (arith, found.place, c.loop-piece.invariant.count) in (
      ap (λ (l : Table). record_at l 0) (same ∙ under_at pieces i p c.loop-piece-test.true c.piece-item.is header under),
      ap (λ (l : Table). record_at l at) same ∙ here ∙ ap (record_at (header ∷ rows_of pieces)) number,
    )

pub returns-in-Some-clause-store : goal.returns-in-Some-clause-store
returns-in-Some-clause-store c =
    let pieces = c.args.pieces.now in
    let p = c.piece-item.result in
    let same : c.in-Ok.store ≡ piece_records p = c.in-Ok.ensures.records ∙ (ap (λ (r : Reading). records_as r c.table.result.now) c.reading.ensures ∙ ap (records_as p.reading) c.table.ensures) in
    let there : p ≡ piece_at pieces c.loop-piece.number =
    same_there pieces c.loop-piece.piece-index p c.loop-piece-test.true c.piece-item.is ∙ ap (piece_at pieces) (sym c.loop-piece.invariant.number) in
    same ∙ ap (λ (q : Stretch). piece_records q) there

pub returns-in-Some-clause-number : goal.returns-in-Some-clause-number
returns-in-Some-clause-number c =
    let pieces = c.args.pieces.now in
    let here : length (rows_of (take c.loop-piece.number pieces)) ≡ length (rows_of (take c.loop-piece.piece-index pieces)) = ap (λ (n : ℕ). length (rows_of (take n pieces))) c.loop-piece.invariant.number in
    omega (arith, here, c.in-Some.ensures.place, c.loop-piece.invariant.count)

pub returns-in-Some-clause-feeds : goal.returns-in-Some-clause-feeds
returns-in-Some-clause-feeds c = c.loop-piece.invariant.feeds ∙ ap (λ (n : ℕ). feeds_of (take n c.args.pieces.now)) (sym c.loop-piece.invariant.number)

pub overflow_add-before : goal.overflow_add-before
overflow_add-before c = omega (arith, c.count-before.ensures.few, c.loop-piece.invariant.few, c.requires.pieces, c.loop-piece-test.true)

-- the sum of the line feeds so far is that of a front of the pieces
pub overflow_add-feeds : goal.overflow_add-feeds
overflow_add-feeds c =
    let pieces = c.args.pieces.now in
    let i = c.loop-piece.piece-index in
    omega (arith, c.requires.few, feeds_within pieces (i + 1), feeds_next pieces i c.piece-item.result c.loop-piece-test.true c.piece-item.is, c.loop-piece.invariant.feeds, c.line_feeds-feeds.ensures.count, ap count_feeds c.lines.ensures)

pub loop-piece-preserved : goal.loop-piece-preserved
loop-piece-preserved c =
    let pieces = c.args.pieces.now in
    let p = c.piece-item.result in
    let i = c.loop-piece.piece-index in
    let same : c.in-Ok.store ≡ piece_records p = c.in-Ok.ensures.records ∙ (ap (λ (r : Reading). records_as r c.table.result.now) c.reading.ensures ∙ ap (records_as p.reading) c.table.ensures) in
    let size : length (piece_rows p) ≡ c.count-before.result = omega (arith, length-drop 1 (piece_records p), ap length same, c.count-before.ensures.rows) in
    record {
      count = omega (arith, count_next pieces i p c.loop-piece-test.true c.piece-item.is, size, c.loop-piece.invariant.count);
      few = omega (arith, c.count-before.ensures.few, c.loop-piece.invariant.few);
      number = omega (arith, c.loop-piece.invariant.number);
      feeds = omega (arith, feeds_next pieces i p c.loop-piece-test.true c.piece-item.is, c.loop-piece.invariant.feeds, c.line_feeds-feeds.ensures.count, ap count_feeds c.lines.ensures);
    }

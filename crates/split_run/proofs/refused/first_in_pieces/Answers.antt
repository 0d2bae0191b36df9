use Rattle.std.proofs.Common.{◌≡◌, ◌+◌, ◌∷◌, ◌∙◌, All, ap, arith, drop, length, length-drop, refl, subst, sym}
use Rattle.std.proofs.lemmas.List.{take_all}
use Rattle.std.proofs.lemmas.List.Elements.{All-nil}
use Rattle.par_model.specs.Columns.{HasColumns}
use Rattle.par_model.specs.declared.refusal.Refusal.{Refusal}
use Rattle.partial_agg.specs.Rows.{IsAccepted, header_width}
use Rattle.row_blocks.specs.Blocks.{Table}
use Rattle.row_windows.specs.Stretch.{Stretch}
use Rattle.split_run.specs.Causes.{AllAccepted, IsFirstRefused}
use Rattle.split_run.specs.Pieces.{piece_records, piece_rows, rows_of}
use Rattle.split_run.proofs.FirstPiece.{accepted_next, count_next, first_here, read_piece}
use Rattle.split_run.proofs.refused.first_in_pieces.Goals as goal

pub loop-piece-init : goal.loop-piece-init
loop-piece-init c = record {
  accepted = All-nil (λ (p : Stretch). All (IsAccepted c.args.plan.now (header_width (piece_records p))) (piece_rows p));
  count = refl;
  few = omega arith;
}

pub first_refused-requires : goal.first_refused-requires
first_refused-requires c =
    let p = c.piece-item.result in
    let plan = c.args.plan.now in
    let pieces = c.args.pieces.now in
    let i = c.loop-piece.piece-index in
    let same : c.in-Ok.store ≡ piece_records p = c.in-Ok.ensures.records ∙ read_piece p _ _ c.reading.ensures c.table.ensures in
    let here : HasColumns plan (header_width (piece_records p)) = subst (λ (q : Stretch). HasColumns plan (header_width (piece_records q))) (sym c.piece-item.is) (c.requires.columns i p c.loop-piece-test.true) in
    record { columns = subst (λ (l : Table). HasColumns plan (header_width l)) (sym same) here }

pub overflow_add-result : goal.overflow_add-result
overflow_add-result c = omega (arith, c.in-Some.ensures.first.refused.within, c.in-Ok.ensures.few, ap length c.in-Ok.ensures.records, c.loop-piece.invariant.few, c.requires.many, c.loop-piece-test.true)

pub returns-in-Some-clause-first : goal.returns-in-Some-clause-first
returns-in-Some-clause-first c = λ header under.
    let plan = c.args.plan.now in
    let pieces = c.args.pieces.now in
    let p = c.piece-item.result in
    let i = c.loop-piece.piece-index in
    let why : Refusal = record { cause = c.in-Some.field-0-1.cause; item = c.in-Some.field-0-1.item } in
    let same : c.in-Ok.store ≡ piece_records p = c.in-Ok.ensures.records ∙ read_piece p _ _ c.reading.ensures c.table.ensures in
    let f : IsFirstRefused plan (piece_records p) c.in-Some.row why = subst (λ (l : Table). IsFirstRefused plan l c.in-Some.row why) same c.in-Some.ensures.first in
    let first = first_here plan pieces i p c.loop-piece-test.true c.piece-item.is c.in-Some.row why c.loop-piece.invariant.accepted f header under in
    subst (λ n. IsFirstRefused plan (header ∷ rows_of pieces) (n + c.in-Some.row) why) (sym c.loop-piece.invariant.count) first

pub returns-in-Some-clause-low : goal.returns-in-Some-clause-low
returns-in-Some-clause-low c = omega (arith, c.in-Some.ensures.first.refused.within, c.in-Ok.ensures.few, ap length c.in-Ok.ensures.records, c.loop-piece.invariant.few, c.requires.many, c.loop-piece-test.true)

pub overflow_add-before : goal.overflow_add-before
overflow_add-before c = omega (arith, c.count-before.ensures.few, c.loop-piece.invariant.few, c.requires.many, c.loop-piece-test.true)

pub loop-piece-preserved : goal.loop-piece-preserved
loop-piece-preserved c =
    let plan = c.args.plan.now in
    let pieces = c.args.pieces.now in
    let p = c.piece-item.result in
    let i = c.loop-piece.piece-index in
    let same : c.in-Ok.store ≡ piece_records p = c.in-Ok.ensures.records ∙ read_piece p _ _ c.reading.ensures c.table.ensures in
    let fine : All (IsAccepted plan (header_width c.in-Ok.store)) (drop 1 c.in-Ok.store) = c.in-None.ensures.none refl in
    let here : All (IsAccepted plan (header_width (piece_records p))) (piece_rows p) = subst (λ (l : Table). All (IsAccepted plan (header_width l)) (drop 1 l)) same fine in
    let more = count_next plan pieces i p c.loop-piece-test.true c.piece-item.is in
    let size : length (piece_rows p) ≡ c.count-before.result = omega (arith, length-drop 1 (piece_records p), ap length same, c.count-before.ensures.rows) in
    record {
      accepted = accepted_next plan pieces i p c.loop-piece-test.true c.piece-item.is c.loop-piece.invariant.accepted here;
      count = omega (arith, more, size, c.loop-piece.invariant.count);
      few = omega (arith, c.count-before.ensures.few, c.loop-piece.invariant.few);
    }

pub unreachable-requires : goal.unreachable-requires
unreachable-requires c =
    let pieces = c.args.pieces.now in
    c.requires.refused (subst (AllAccepted c.args.plan.now) (take_all c.loop-piece.piece-index pieces (omega (arith, c.loop-piece-test.false))) c.loop-piece.invariant.accepted)

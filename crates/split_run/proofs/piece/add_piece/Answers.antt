use Rattle.std.proofs.Common.{◌≡◌, ◌∙◌, ◌++◌, All, List, ℕ, ap, drop, refl, subst, sym, true}
use Rattle.csv_rows.specs.Readings.{is_plain}
use Rattle.csv_rows.specs.Records.{records_of}
use Rattle.partial_agg.specs.Groups.{with_rows}
use Rattle.partial_agg.specs.Rows.{IsAccepted, header_width}
use Rattle.row_blocks.specs.Blocks.{Table}
use Rattle.row_windows.specs.Stretch.{Stretch}
use Rattle.split_run.specs.Causes.{IsCause}
use Rattle.split_run.specs.Pieces.{piece_records}
use Rattle.split_run.proofs.FoundPiece.{read-plainly}
use Rattle.split_run.proofs.piece.add_piece.Goals as goal

-- the records of a piece whose fields are read plainly
found-records : (p : Stretch) (text : List ℕ) → is_plain p.reading ≡ true → text ≡ p.header ++ p.lines → records_of text ≡ piece_records p
found-records p text plain is = ap records_of is ∙ sym (read-plainly p.reading (p.header ++ p.lines) plain)

pub returns-in-Ok-Some-clause-added : goal.returns-in-Ok-Some-clause-added
returns-in-Ok-Some-clause-added c =
    let same = found-records c.args.piece.now c.table.result.now (c.if-is_found.ensures refl) c.table.ensures in
    let added = rw c.in-Ok-Some.field-0-is at c.in-Ok-Some.ensures.added in
    added ∙ ap (λ (l : Table). with_rows c.args.plan.now c.args.groups.now (drop 1 l)) same

pub returns-in-Ok-Some-clause-accepted : goal.returns-in-Ok-Some-clause-accepted
returns-in-Ok-Some-clause-accepted c =
    let same = found-records c.args.piece.now c.table.result.now (c.if-is_found.ensures refl) c.table.ensures in
    let accepted = rw c.in-Ok-Some.field-0-is at c.in-Ok-Some.ensures.accepted in
    subst (λ (l : Table). All (IsAccepted c.args.plan.now (header_width l)) (drop 1 l)) same accepted

pub returns-in-Err-clause-refused : goal.returns-in-Err-clause-refused
returns-in-Err-clause-refused c =
    let same = found-records c.args.piece.now c.table.result.now (c.if-is_found.ensures refl) c.table.ensures in
    subst (λ (l : Table). IsCause c.args.plan.now l c.in-Err.why) same c.in-Err.ensures.refused

use Rattle.std.proofs.Common.{◌≡◌, ◌++◌, ◌∙◌, ap, subst}
use Rattle.csv_rows.specs.Readings.{records_as}
use Rattle.csv_rows.specs.declared.cleaning.Reading.{Reading}
use Rattle.row_blocks.specs.Blocks.{Table}
use Rattle.split_run.specs.Causes.{IsCause}
use Rattle.split_run.specs.Pieces.{piece_records}
use Rattle.part_run.proofs.piece.spread_stored.Goals as goal

-- the records that were read are those of the piece
pub returns-clause-refused : goal.returns-clause-refused
returns-clause-refused c =
    let p = c.args.piece.now in
    let same : c.in-Ok.store ≡ piece_records p =
    c.in-Ok.ensures.records ∙ (ap (records_as c.reading.result.now) c.table.ensures ∙ ap (λ (r : Reading). records_as r (p.header ++ p.lines)) c.reading.ensures) in
    subst (λ (l : Table). IsCause c.args.plan.now l c.in-Err.why) same c.in-Err.ensures.refused

use Rattle.std.proofs.Common.{◌≡◌, ◌∙◌, subst}
use Rattle.row_blocks.specs.Blocks.{Table}
use Rattle.split_run.specs.Causes.{IsCause}
use Rattle.split_run.specs.Pieces.{piece_records}
use Rattle.split_run.proofs.FirstPiece.{read_piece}
use Rattle.split_run.proofs.piece.add_stored.Goals as goal

pub returns-clause-refused : goal.returns-clause-refused
returns-clause-refused c =
    let p = c.args.piece.now in
    let same : c.in-Ok.store ≡ piece_records p = c.in-Ok.ensures.records ∙ read_piece p _ _ c.reading.ensures c.table.ensures in
    subst (λ (l : Table). IsCause c.args.plan.now l c.in-Err.why) same c.in-Err.ensures.refused

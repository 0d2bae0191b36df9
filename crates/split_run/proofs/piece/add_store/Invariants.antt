use Rattle.std.proofs.Common.{◌≡◌, All}
use Rattle.partial_agg.specs.Groups.{with_rows}
use Rattle.partial_agg.specs.Rows.{IsAccepted, header_width}
use Rattle.row_blocks.specs.Blocks.{rows_of_blocks}
use Rattle.scan_claim.specs.Drawing.{below}
use Rattle.split_run.proofs.piece.add_store.Given as goal

-- the map has the rows of the blocks so far, and none of these is refused
abbrev pub invariant-loop-block : goal.invariant-loop-block
invariant-loop-block l = record {
  added : l.groups ≡ with_rows l.plan l.fn.groups (rows_of_blocks l.rows (below l.block));
  accepted : All (IsAccepted l.plan (header_width l.rows)) (rows_of_blocks l.rows (below l.block));
}

use Rattle.std.proofs.Common.{ℕ, List, ap, arith, length, length-append}
use Rattle.stream_groups.proofs.Feeds.{lines_upto}
use Rattle.stream_groups.proofs.batch.Batch.bytes.Goals as goal

-- one window more, with the header's line
pub loop-piece-preserved : goal.loop-piece-preserved
loop-piece-preserved c =
    let p = c.piece-item.result in
    let more = lines_upto c.as_slice-piece-items.result.now c.loop-piece.piece-index p c.loop-piece-test.true c.piece-item.is in
    let size = ap (λ (l : List ℕ). length l) c.table.ensures in
    omega (arith, more, size, length-append p.header p.lines, c.loop-piece.invariant, c.saturating_add-bytes.ensures)

use Rattle.std.proofs.Common.{◌≡◌, drop}
use Rattle.scan_claim.specs.Drawing.{below}
use Rattle.join_pairs.specs.Join.{keyed}
use Rattle.uses_join.proofs.pairs.keyed_rows.Given as goal

abbrev pub invariant-loop-row : goal.invariant-loop-row
invariant-loop-row l = l.keyed.items ≡ keyed l.rows l.column (drop 1 (below l.row))

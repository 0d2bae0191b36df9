use Rattle.std.proofs.Common.{◌≡◌, ◌≤◌, length, take}
use Rattle.csv_rows.specs.InPieces.{joined}
use Rattle.csv_rows.proofs.store.count_all.Given as goal

abbrev pub invariant-pieces : goal.invariant-pieces
invariant-pieces l = record { count : l.total ≡ length (joined (take l.at l.pieces.items)); few : l.total ≤ 4194305 }

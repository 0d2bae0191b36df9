use Rattle.std.proofs.Common.{◌≡◌, ◌≤◌, length, take}
use Rattle.csv_rows.specs.InPieces.{joined}
use Rattle.csv_rows.proofs.store.find_piece.Given as goal

abbrev pub invariant-pieces : goal.invariant-pieces
invariant-pieces l = record { first : l.first ≡ length (joined (take l.at l.pieces.items)); low : l.first ≤ l.fn.row }

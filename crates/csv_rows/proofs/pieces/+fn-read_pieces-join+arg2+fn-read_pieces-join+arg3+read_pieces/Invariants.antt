use Rattle.std.proofs.Common.{◌+◌}
use Rattle.csv_rows.proofs.pieces.+fn-read_pieces-join+arg2+fn-read_pieces-join+arg3+read_pieces.Given as goal

abbrev pub decreases-join+arg2 : goal.decreases-join+arg2
decreases-join+arg2 g l = (l.low + l.low) + 1

abbrev pub decreases-join+arg3 : goal.decreases-join+arg3
decreases-join+arg3 g l = (l.high + l.high) + 1

abbrev pub decreases-read_pieces : goal.decreases-read_pieces
decreases-read_pieces g l = l.parts + l.parts

use Rattle.std.proofs.Common.{◌≡◌, ◌++◌, map, take, drop}
use Rattle.csv_rows.specs.Readings.{exchanged}
use Rattle.csv_rows.proofs.exchanging.exchange.Given as goal

abbrev pub invariant-loop-at : goal.invariant-loop-at
invariant-loop-at l = l.bytes ≡ map (exchanged l.separator) (take l.at l.fn.bytes) ++ drop l.at l.fn.bytes

use Rattle.std.proofs.Common.{◌≡◌, ℕ, length}
use mathlib.Core.Option.{some}
use lib.ListN.{get_elem?}
use Rattle.single_flight.specs.declared.cell.Cell.{Cell}
use Rattle.single_flight.specs.declared.history.CellState.TheVariants.{Empty}
use Rattle.single_flight.proofs.loader.empty_cells.Given as goal

abbrev pub invariant-loop-key : goal.invariant-loop-key
invariant-loop-key g l = record {
  count : length l.cells.items ≡ l.key;
  empty : (k : ℕ) (c : Cell g.row.L.Denot g.row.L-Value.Denot) → get_elem? l.cells.items k ≡ some c → (c.key ≡ k) × (c.state ≡ Empty 0);
}

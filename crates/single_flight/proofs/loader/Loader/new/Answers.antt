use Rattle.std.proofs.Common.{◌≡◌, ℕ, List, subst}
use mathlib.Core.Option.{some}
use lib.ListN.{get_elem?}
use Rattle.single_flight.specs.declared.history.CellState.{CellState}
use Rattle.single_flight.proofs.Told.{opens_so}
use Rattle.single_flight.proofs.loader.Loader.new.Goals as goal

pub invariant_of-result : goal.invariant_of-result
invariant_of-result g c = record {
  opens = λ k o at. opens_so c.in_ok-cells.cells.items c.in_ok-cells.ensures.empty k o (subst (λ (xs : List (ℕ × CellState g.row.L-Value.Denot)). get_elem? xs k ≡ some o) c.in_ok-shelf.ensures.opens at);
}

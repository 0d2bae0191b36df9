use Rattle.std.proofs.Common.{ℕ, subst}
use Rattle.lock_book.specs.History.{IsLegal}
use Rattle.lock_book.specs.Shown.{whole_of}
use Rattle.lock_book.proofs.Uses.{opens_at}
use Rattle.single_flight.specs.declared.history.CellState.{CellState}
use Rattle.single_flight.specs.declared.history.CellState.TheVariants.{Empty}
use Rattle.single_flight.specs.Cells.{MayCall}
use Rattle.single_flight.proofs.Flights.{plain}
use Rattle.single_flight.proofs.loader.Loader.close.Goals as goal

pub returns-clause-lawful : goal.returns-clause-lawful
returns-clause-lawful g c = λ k low.
    let there = opens_at c.args.self.shelf k low in
    let f = c.args.self.opens k there.0 there.1 in
    plain (g.L.Values.holds k) (Empty 0) (whole_of c.close.result k)
    (subst (λ (z : ℕ × CellState g.row.L-Value.Denot). IsLegal (MayCall (g.L.Values.holds z.0)) z.1 (whole_of c.close.result k)) (λ i. (f.0 i, f.1 i)) (c.close.ensures.ended.lawful k there.0 there.1))

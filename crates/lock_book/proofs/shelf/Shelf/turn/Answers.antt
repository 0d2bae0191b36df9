use Rattle.std.proofs.Common.{◌∙◌, ap}
use Rattle.lock_book.specs.Shown.{calls_carried}
use Rattle.lock_book.proofs.Calls.{slot_taken}
use Rattle.lock_book.proofs.Turns.{opened}
use Rattle.lock_book.proofs.Uses.{is_here}
use Rattle.lock_book.proofs.shelf.Shelf.turn.Goals as goal

pub lend-seat-requires-clause-here : goal.lend-seat-requires-clause-here
lend-seat-requires-clause-here g c κs within = is_here c.args.self.now c.args.pass.now c.requires.own

pub begin-requires-clause-held : goal.begin-requires-clause-held
begin-requires-clause-held g c κs within =
    let K = g.T.Kept in
    let d = c.acquire.ensures.taken in
    (d.slot, slot_taken (λ x. K.name x.value) (λ x. K.state x.value) K.legal c.args.at _ _ c.lend-seat.ensures.2 d)

pub returns-clause-turn : goal.returns-clause-turn
returns-clause-turn g c =
    let b = c.begin.ensures.begun in
    let e = c.lend-seat.ensures in
    opened c.args.self.now c.args.pass.now c.requires.own c.lend-seat.result.me c.acquire.new.seat.me e.1 e.2 c.args.at c.requires.place c.acquire.ensures.taken
    c.begin.new.seat.table_id (c.begin.ensures.own.0 ∙ (c.acquire.ensures.own ∙ (e.0 ∙ c.requires.own.table))) c.begin.new.seat.me c.begin.ensures.own.1 b.0 b.1 b.2 b.3 b.4 b.5

pub returns-clause-none : goal.returns-clause-none
returns-clause-none g c = let b = c.begin.ensures.begun in ap calls_carried b.3 ∙ b.5

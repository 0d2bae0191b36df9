use Rattle.std.proofs.Common.{◌<◌, refl, ap, subst}
use Rattle.lock_book.specs.History.{last_of}
use Rattle.lock_book.specs.Shown.{calls_in, number_of, opens_of, place_in, seen_of, mine_of}
use Rattle.dshash_parts.specs.States.{fresh}
use Rattle.dshash_parts.specs.Tables.{name_in}
use Rattle.dshash_parts.proofs.Owners.{allowed, lawful, own_cells}
use Rattle.dshash_parts.proofs.InTurns.{all_turned}
use Rattle.dshash_parts.proofs.Uses.{seen_cells, seen_roomy}
use Rattle.dshash_parts.proofs.table.Dshash.end_turn.Goals as goal

pub returns-clause-turned : goal.returns-clause-turned
returns-clause-turned g c = λ p h.
    let t = c.requires.table.1 in
    let at = place_in c.args.turn in
    let there = t.parts at (subst (λ n. at < n) t.count h.place) in
    all_turned g.O.CellObject.stepped g.O.CellObject.may (opens_of c.args.self.now.shelf) (number_of p) _ _ _ _ at (calls_in c.args.turn) (name_in c.requires.table.0 c.args.self.now at) there
    (c.end.ensures.own.0.stands.lawful at _ there) (c.end.ensures.called p h)

pub returns-clause-allowed : goal.returns-clause-allowed
returns-clause-allowed g c = λ k few. allowed g.O.CellObject.stepped g.O.CellObject.may k _ (c.end.ensures.own.0.stands.lawful k _ (c.requires.table.1.parts k few))

pub returns-clause-owned : goal.returns-clause-owned
returns-clause-owned g c =
    let pass = c.end.new.pass in
    own_cells g.O.CellObject.stepped g.O.CellObject.may (number_of pass) (number_of pass) (seen_of pass) (mine_of pass) refl (λ k few. c.end.ensures.own.0.stands.lawful k _ (c.requires.table.1.parts k few)) c.end.ensures.own.0.stands.own

pub returns-clause-cells : goal.returns-clause-cells
returns-clause-cells g c = seen_cells g.O.CellObject.stepped (seen_of c.end.new.pass) (λ k few. lawful g.O.CellObject.stepped g.O.CellObject.may k _ (c.end.ensures.own.0.stands.lawful k _ (c.requires.table.1.parts k few)))

pub returns-clause-roomy : goal.returns-clause-roomy
returns-clause-roomy g c = seen_roomy g.O.CellObject.stepped (seen_of c.end.new.pass) (λ k few. lawful g.O.CellObject.stepped g.O.CellObject.may k _ (c.end.ensures.own.0.stands.lawful k _ (c.requires.table.1.parts k few)))

pub returns-clause-state : goal.returns-clause-state
returns-clause-state g c = ap (last_of fresh) c.end.ensures.seen

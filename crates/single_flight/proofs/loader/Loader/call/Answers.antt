use Rattle.std.proofs.Common.{◌∷◌, [], ℕ, List, sym, subst}
use Rattle.lock_book.specs.History.{IsLegal, entry, last_of}
use Rattle.lock_book.specs.Shown.{mine_of, number_of, seen_of}
use Rattle.lock_book.proofs.Uses.{legal_front, opens_at}
use Rattle.single_flight.specs.declared.history.CellState.{CellState}
use Rattle.single_flight.specs.declared.history.CellState.TheVariants.{Empty}
use Rattle.single_flight.specs.Cells.{CallFits, MayCall}
use Rattle.single_flight.specs.Laws.{Step}
use Rattle.single_flight.proofs.Told.{known_before}
use Rattle.single_flight.proofs.loader.Loader.call.Goals as goal

pub call-requires-clause-input : goal.call-requires-clause-input
call-requires-clause-input g c κs within = λ o at.
    let f = c.args.self.now.opens c.args.key o at in
    (tt, (c.number-by.ensures, subst (λ (k : ℕ). CallFits (g.L.Values.holds k) c.args.call) (sym f.0) c.requires.fits))

pub returns-clause-turned : goal.returns-clause-turned
returns-clause-turned g c =
    let n = number_of c.args.pass.now in
    let a = c.call.ensures.called in
    let own = c.call.ensures.own in
    let there = opens_at c.args.self.now.shelf c.args.key c.requires.key in
    let f = c.args.self.now.opens c.args.key there.0 there.1 in
    let may = MayCall (g.L.Values.holds c.args.key) in
    let whole = subst (λ (z : ℕ × CellState g.row.L-Value.Denot). IsLegal (MayCall (g.L.Values.holds z.0)) z.1 (seen_of c.call.new.pass c.args.key)) (λ i. (f.0 i, f.1 i)) (own.0.stands.lawful c.args.key there.0 there.1) in
    record {
      before = a.before;
      after = a.after;
      ends = a.ends;
      begins = a.begins;
      lawful = legal_front may (Empty 0) a.before (entry n c.args.call c.call.result a.after ∷ []) (subst (λ (es : List (Step g.row.L-Value.Denot)). IsLegal may (Empty 0) es) a.ends whole);
      step = subst (λ (z : ℕ × CellState g.row.L-Value.Denot). MayCall (g.L.Values.holds z.0) n (last_of z.1 a.before) c.args.call c.call.result a.after) (λ i. (f.0 i, f.1 i)) (a.step there.0 there.1);
      own = a.mine_grows;
      known = known_before n (number_of c.call.new.pass) (seen_of c.call.new.pass c.args.key) a.before (mine_of c.args.pass.now c.args.key) (mine_of c.call.new.pass c.args.key) c.args.call c.call.result a.after own.1 (own.0.stands.own c.args.key) a.ends a.mine_grows;
    }

pub returns-clause-fits : goal.returns-clause-fits
returns-clause-fits g c =
    let there = opens_at c.args.self.now.shelf c.args.key c.requires.key in
    c.call.ensures.output there.0 there.1

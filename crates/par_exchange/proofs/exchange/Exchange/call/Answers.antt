use Rattle.std.proofs.Common.{◌≡◌, ◌∙◌, ◌<◌, ◌∷◌, [], List, ap, sym, subst}
use mathlib.Core.Option.{some-injective}
use lib.ListN.{get_elem?}
use Rattle.lock_book.specs.History.{IsLegal, entry}
use Rattle.lock_book.specs.Shown.{number_of}
use Rattle.lock_book.proofs.Uses.{legal_front}
use Rattle.par_exchange.specs.declared.history.ExchangeName.{ExchangeName}
use Rattle.par_exchange.specs.declared.history.ExchangeState.{ExchangeState}
use Rattle.par_exchange.specs.Answers.{call_of, reply_of}
use Rattle.par_exchange.specs.Legal.{CallFits, MayCall}
use Rattle.par_exchange.specs.Phases.{Step}
use Rattle.par_exchange.specs.Shown.{history_of, own_of, parties_of}
use Rattle.par_exchange.specs.States.{fresh}
use Rattle.par_exchange.proofs.Fits.{known_before}
use Rattle.par_exchange.proofs.exchange.Exchange.call.Goals as goal

pub call-requires-clause-input : goal.call-requires-clause-input
call-requires-clause-input g c κs within = λ o at.
    let ex = c.requires.exchange in
    let n = number_of c.args.pass.now in
    subst (λ (q : ExchangeName g.row.X-Sign.Denot × ExchangeState g.row.X-Token.Denot). Unit {0} × ((c.number-by.result ≡ n) × (n < q.0.parties) × CallFits (g.X.Trade.brings q.0.sign) (g.X.Trade.gives q.0.sign) (g.X.Trade.leaves q.0.sign) n (call_of c.args.wish)))
    (some-injective _ o (sym (ap (λ xs. get_elem? xs 0) ex.1.opens) ∙ at))
    (tt, (c.number-by.ensures, c.requires.own.stands.below, c.requires.fits ex.0 ex.1))

pub returns-clause-turned : goal.returns-clause-turned
returns-clause-turned g c = λ sign is.
    let p = parties_of c.args.self.now in
    let n = number_of c.args.pass.now in
    let a = c.call.ensures.called in
    let own = c.call.ensures.own in
    let here = ap (λ xs. get_elem? xs 0) is.opens in
    let whole = own.0.stands.lawful 0 _ here in
    let may = MayCall (g.X.Trade.brings sign) (g.X.Trade.gives sign) (g.X.Trade.leaves sign) in
    record {
      before = a.before;
      after = a.after;
      ends = a.ends;
      begins = a.begins;
      lawful = legal_front may (fresh p) a.before (entry n (call_of c.args.wish) (reply_of c.call.result) a.after ∷ []) (subst (λ (es : List (Step g.row.X-Token.Denot)). IsLegal may (fresh p) es) a.ends whole);
      step = a.step _ here;
      own = a.mine_grows;
      known = known_before n (number_of c.call.new.pass) (history_of c.call.new.pass) a.before (own_of c.args.pass.now) (own_of c.call.new.pass) (call_of c.args.wish) (reply_of c.call.result) a.after own.1 (own.0.stands.own 0) a.ends a.mine_grows;
      low = c.requires.own.stands.below;
    }

pub returns-clause-fits : goal.returns-clause-fits
returns-clause-fits g c = c.call.ensures.output _ (ap (λ xs. get_elem? xs 0) c.requires.exchange.1.opens)

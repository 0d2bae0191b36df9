use Rattle.std.proofs.Common.{◌∙◌, List, [], ◌∷◌, ◌++◌, length, map, ap}
use Rattle.par_exchange.specs.declared.history.ExchangeName.{ExchangeName}
use Rattle.par_exchange.specs.declared.history.ExchangeState.{ExchangeState}
use Rattle.par_exchange.specs.declared.desk.Desk.{Desk}
use Rattle.par_exchange.proofs.Fits.{opens_so}
use Rattle.par_exchange.proofs.exchange.Exchange.new.Goals as goal

pub returns-clause-exchange : goal.returns-clause-exchange
returns-clause-exchange g c =
    let s = c.in_ok-shelf.ensures in
    let items = c.in_ok-push.ensures.items ∙ ap (λ (l : List (Desk g.row.X.Denot g.row.X-Token.Denot g.row.X-Sign.Denot)). l ++ record { sign = c.args.sign; tokens = c.in_ok-tokens.tokens } ∷ []) c.new-desks.ensures.items in
    record {
      one = s.counts.0 ∙ ap length items;
      opens = s.opens ∙ (ap (map (λ (d : Desk g.row.X.Denot g.row.X-Token.Denot g.row.X-Sign.Denot). let z : ExchangeName g.row.X-Sign.Denot × ExchangeState g.row.X-Token.Denot = (record { parties = d.tokens.parties; sign = d.sign }, d.tokens.state) in z)) items ∙ opens_so c.args.sign c.in_ok-tokens.tokens c.args.parties _ c.in_ok-tokens.ensures s.counts.1);
    }

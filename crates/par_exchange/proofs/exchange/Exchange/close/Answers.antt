use Rattle.std.proofs.Common.{ap}
use lib.ListN.{get_elem?}
use Rattle.par_exchange.specs.Ending.{whole_of}
use Rattle.par_exchange.specs.Shown.{parties_of}
use Rattle.par_exchange.specs.States.{fresh}
use Rattle.par_exchange.proofs.Fits.{plain}
use Rattle.par_exchange.proofs.exchange.Exchange.close.Goals as goal

pub returns : goal.returns
returns g c =
    let x = c.args.self in
    let ex = c.requires.exchange in
    let e = c.close.ensures.ended in
    record {
      ended = record {
        lawful = plain (g.X.Trade.brings ex.0) (g.X.Trade.gives ex.0) (g.X.Trade.leaves ex.0) (fresh (parties_of x)) (whole_of c.close.result) (e.lawful 0 _ (ap (λ xs. get_elem? xs 0) ex.1.opens));
        begins = λ n p at. e.begins n 0 p at;
        mine = λ n p at. e.mine n 0 p at;
        no_others = λ n le. e.no_others 0 n le;
      };
    }

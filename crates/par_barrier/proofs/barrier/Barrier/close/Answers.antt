use Rattle.std.proofs.Common.{map, ap}
use lib.ListN.{get_elem?}
use Rattle.lock_book.proofs.Uses.{at_map}
use Rattle.par_barrier.specs.Parties.{nobody}
use Rattle.par_barrier.specs.declared.barrier.BarrierPass.{BarrierPass}
use Rattle.par_barrier.proofs.barrier.Barrier.close.Goals as goal

pub returns : goal.returns
returns c =
    let b = c.args.self in
    let passes = c.args.passes.items in
    let e = c.close_joined.ensures.ended (map (λ (p : BarrierPass). p.pass) passes) c.join_passes-joined.ensures in
    record {
      ended = record {
        lawful = e.lawful 0 (b.shelf.callers, nobody) (ap (λ xs. get_elem? xs 0) b.opens);
        begins = λ n p at. e.begins n 0 p.pass (at_map (λ (q : BarrierPass). q.pass) passes n p at);
        mine = λ n p at. e.mine n 0 p.pass (at_map (λ (q : BarrierPass). q.pass) passes n p at);
        no_others = λ n le. e.no_others 0 n le;
      };
    }

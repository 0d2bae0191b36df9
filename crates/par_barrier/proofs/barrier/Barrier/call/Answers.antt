use Rattle.std.proofs.Common.{ap}
use lib.ListN.{get_elem?}
use Rattle.par_barrier.specs.Parties.{nobody}
use Rattle.par_barrier.proofs.barrier.Barrier.call.Goals as goal

pub returns-clause-called : goal.returns-clause-called
returns-clause-called g c =
    let b = c.args.self.now in
    let a = c.call.ensures.called in
    record { before = a.before; after = a.after; ends = a.ends; begins = a.begins; step = a.step (b.shelf.callers, nobody) (ap (λ xs. get_elem? xs 0) b.opens); own = a.mine_grows }

pub returns-clause-fits : goal.returns-clause-fits
returns-clause-fits g c =
    let b = c.args.self.now in
    c.call.ensures.output (b.shelf.callers, nobody) (ap (λ xs. get_elem? xs 0) b.opens)

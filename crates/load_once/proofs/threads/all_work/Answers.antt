use Rattle.std.proofs.Common.{ap}
use Rattle.atomic_table.proofs.Lists.{at_index}
use Rattle.single_flight.specs.Laws.{load_in}
use Rattle.load_once.proofs.threads.all_work.Goals as goal

pub works_of-requires-clause-own : goal.works_of-requires-clause-own
works_of-requires-clause-own g c κs within = λ i p lt e.
    let new = c.in_ok-loader.ensures in
    let at = at_index _ i p lt e in
    (new.passes.each i p at, λ k. ap load_in (new.fresh i p at k).1)

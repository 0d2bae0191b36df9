use Rattle.input_hints.proofs.Peeks.{kept_more}
use Rattle.input_hints.proofs.front.Front.read.Goals as goal

pub returns-clause-kept : goal.returns-clause-kept
returns-clause-kept g c =
    let read = c.in_ok-count.ensures in
    rw (← c.self.view_is) (kept_more _ _ c.self.inside.bytes _ c.self.inside.count c.in_ok-count.count read.front read.read)

use Rattle.state_head.proofs.Covers.{IsCoverTo}
use Rattle.state_head.proofs.list.read_cover.Given as goal

abbrev pub invariant-loop : goal.invariant-loop
invariant-loop l = IsCoverTo l.sources l.count l.initial.rest l.cover.items l.before l.rest l.counter

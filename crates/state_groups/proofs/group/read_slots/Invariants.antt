use Rattle.state_groups.proofs.Places.{IsReadTo}
use Rattle.state_groups.proofs.group.read_slots.Given as goal

abbrev pub invariant-loop-at : goal.invariant-loop-at
invariant-loop-at l = IsReadTo l.bytes l.kinds l.rows l.slots l.rest l.at

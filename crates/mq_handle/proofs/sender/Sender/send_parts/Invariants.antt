use Rattle.std.proofs.Common.{◌≡◌, ◌≤◌, ◌⊎◌, length, false}
use Rattle.mq_handle.specs.Waiting.{SendsOn}
use Rattle.mq_handle.specs.Parts.{joined}
use Rattle.mq_handle.specs.Told.{RoomFound}
use Rattle.mq_handle.proofs.sender.Sender.send_parts.Given as goal

abbrev pub invariant-loop : goal.invariant-loop
invariant-loop g l = record {
  can_next : (goal.iterator-loop g).can_next l.iterator';
  finite : (goal.iterator-loop g).is_finite l.iterator';
  kept : l.self ≡ record l.fn.self { end = l.self.end };
  first : (l.self ≡ l.fn.self) ⊎ (length (joined l.parts) ≤ l.fn.self.end.ring.max);
  on : SendsOn l.fn.self.end l.self.end (joined l.parts);
  found : RoomFound l.fn.self.told l.fn.self.end l.self.end;
  stays : l.self.end.gone ≡ false;
}

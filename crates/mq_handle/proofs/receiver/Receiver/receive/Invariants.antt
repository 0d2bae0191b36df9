use Rattle.std.proofs.Common.{◌≡◌, false}
use Rattle.mq_handle.specs.Receives.{incoming}
use Rattle.mq_handle.specs.Waiting.{ReceivesOn}
use Rattle.mq_handle.specs.Told.{WordsFound}
use Rattle.mq_handle.proofs.receiver.Receiver.receive.Given as goal

abbrev pub invariant-loop : goal.invariant-loop
invariant-loop g l = record {
  can_next : (goal.iterator-loop g).can_next l.iterator';
  finite : (goal.iterator-loop g).is_finite l.iterator';
  kept : l.self ≡ incoming l.fn.self.region l.self.end l.fn.self.told l.self.message;
  on : ReceivesOn l.fn.self.end l.self.end;
  found : WordsFound l.fn.self.told l.fn.self.end l.self.end;
  stays : l.self.end.gone ≡ false;
}

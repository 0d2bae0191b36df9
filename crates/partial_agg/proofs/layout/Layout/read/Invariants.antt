use Rattle.std.proofs.Common.{◌≡◌, drop, length, take}
use Rattle.partial_agg.specs.Lanes.{slots_in}
use Rattle.partial_agg.proofs.layout.Layout.read.Given as goal

abbrev pub invariant-loop-at : goal.invariant-loop-at
invariant-loop-at l = record {
  long : length l.slots ≡ 8;
  done : take l.at l.slots ≡ slots_in (take l.at l.self.parts) l.lanes;
  rest : drop l.at l.slots ≡ drop l.at l.fn.slots;
}

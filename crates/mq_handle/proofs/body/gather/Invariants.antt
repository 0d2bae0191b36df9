use Rattle.std.proofs.Common.{◌≡◌, ◌-◌, min, length, take, drop}
use Rattle.mq_handle.specs.Parts.{joined}
use Rattle.mq_handle.proofs.body.gather.Given as goal

abbrev pub invariant-loop-part : goal.invariant-loop-part
invariant-loop-part l = record {
  skip : l.skip ≡ l.from - length (joined (take l.part-index l.parts));
  done : l.done ≡ min (length l.fn.out) (length (joined (take l.part-index l.parts)) - l.from);
  size : length l.out ≡ length l.fn.out;
  copied : take l.done l.out ≡ take (length l.fn.out) (drop l.from (joined (take l.part-index l.parts)));
}

use Rattle.std.proofs.Common.{◌≡◌, length, take}
use Rattle.rel_pointer.specs.Bytes.{AllBytes}
use Rattle.mq_handle.specs.Parts.{joined}
use Rattle.mq_handle.proofs.body.Body.of_parts.Given as goal

abbrev pub invariant-loop-part : goal.invariant-loop-part
invariant-loop-part l = record {
  count : l.len ≡ length (joined (take l.part-index l.parts));
  bytes : AllBytes (joined (take l.part-index l.parts));
}

use Rattle.std.proofs.Common.{◌≡◌, fold, take}
use Rattle.state_file.specs.Checksum.{taken_in}
use Rattle.state_file.proofs.checksum.take_each.Given as goal

abbrev pub invariant-loop-byte : goal.invariant-loop-byte
invariant-loop-byte l = l.register ≡ fold taken_in l.start (take l.byte-index l.bytes)

use Rattle.std.proofs.Common.{◌≡◌, fold}
use Rattle.state_file.specs.Checksum.{taken_in}
use Rattle.state_file.proofs.eights.take_eights.Given as goal

abbrev pub invariant-loop-turn : goal.invariant-loop-turn
invariant-loop-turn l = fold taken_in l.register l.rest ≡ fold taken_in l.start l.bytes

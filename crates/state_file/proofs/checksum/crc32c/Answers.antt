use Rattle.std.proofs.Common.{◌-◌, ℕ, ap}
use Rattle.state_file.specs.Checksum.{crc32c}
use Rattle.state_file.proofs.checksum.crc32c.Goals as goal

pub returns-then-bytes-lt-MANY : goal.returns-then-bytes-lt-MANY
unfolding crc32c
returns-then-bytes-lt-MANY c = ap (λ (n : ℕ). 4294967295 - n) c.take_each.ensures

pub returns-else-bytes-lt-MANY : goal.returns-else-bytes-lt-MANY
unfolding crc32c
returns-else-bytes-lt-MANY c = ap (λ (n : ℕ). 4294967295 - n) c.take_eights.ensures

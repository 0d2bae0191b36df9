use Rattle.std.proofs.Common.{◌≡◌, ◌+◌, ◌*◌, sum_by, take}
use Rattle.shm_toc.specs.Table.{rounded}
use Rattle.shm_toc.proofs.room.estimate.Given as goal

abbrev pub invariant-loop-bytes : goal.invariant-loop-bytes
invariant-loop-bytes l = l.total ≡ 32 + 16 * l.keys + sum_by rounded (take l.bytes-index l.chunks)

use Rattle.std.proofs.Common.{arith}
use Rattle.dshash_parts.proofs.Owners.{buckets_grow}
use Rattle.chunk_table.proofs.locked.grow.Goals as goal

pub returns-then-size-clause-left : goal.returns-then-size-clause-left
returns-then-size-clause-left g c = λ size before wanted. (let more = buckets_grow size c.size.result (omega (arith, before, c.size.ensures.is)) in omega (arith, more, c.size.ensures.room, c.move_to.ensures.slice.2))

pub returns-else-size-clause-left : goal.returns-else-size-clause-left
returns-else-size-clause-left g c = λ size before wanted. (let more = buckets_grow size c.args.size wanted in omega (arith, more, c.requires.room))

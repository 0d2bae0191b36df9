use Rattle.std.proofs.Common.{refl}
use Rattle.shell_memory.proofs.Named.{not-there}
use Rattle.shell_memory.specs.Chunks.{chunk_of}
use Rattle.shell_memory.proofs.chunks.Chunks.alloc.Goals as goal

pub returns-in_ok-enter-in-Ok-clause-answer : goal.returns-in_ok-enter-in-Ok-clause-answer
returns-in_ok-enter-in-Ok-clause-answer g c = (
  not-there (chunk_of c.args.self.now c.args.name.now) c.has.result c.has.ensures c.if-has.false,
  c.in-Ok.ensures.area,
  (c.in-Ok.chunk, refl, c.in-Ok.ensures.size.0, c.in-Ok.ensures.granted, c.in_ok-enter-in-Ok.ensures.puts),
)

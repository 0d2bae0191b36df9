use Rattle.std.proofs.Common.{false, ap, refl}
use Rattle.shell_memory.proofs.Named.{not-there}
use Rattle.shell_memory.specs.Chunks.{chunk_of}
use Rattle.shm_toc.specs.Table.{Table}
use Rattle.shell_memory.specs.Contents.{TocState}
use Rattle.shell_memory.proofs.contents.allocate.Goals as goal

pub returns-in_ok-enter-in-Ok-clause-answer : goal.returns-in_ok-enter-in-Ok-clause-answer
returns-in_ok-enter-in-Ok-clause-answer c =
    let state = λ (t : Table). (let s : TocState = record { table = t; frozen = false } in s) in (
      refl,
      not-there (chunk_of c.args.chunks.now c.args.name.now) c.has.result c.has.ensures c.if-has.false,
      c.in-Ok.ensures.chunk.1,
      ap state c.in-Ok.ensures.taken,
      (c.in-Ok.chunk, refl, c.in-Ok.ensures.chunk.2, c.in_ok-enter-in-Ok.ensures.puts),
    )

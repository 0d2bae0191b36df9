use Rattle.std.proofs.Common.{◌∙◌, ℕ, false, ap, refl, sym}
use Rattle.shell_memory.proofs.Named.{found-by}
use Rattle.shell_memory.specs.Chunks.{chunk_of}
use Rattle.region_words.specs.declared.chunk.Chunk.{Chunk}
use Rattle.shm_toc.specs.Requests.{with_entry}
use Rattle.shm_toc.specs.Table.{Table, table_of}
use Rattle.shell_memory.specs.Contents.{TocState}
use Rattle.shell_memory.proofs.contents.insert.Goals as goal

pub returns-in-Ok-clause-answer : goal.returns-in-Ok-clause-answer
returns-in-Ok-clause-answer c =
    let state = λ (t : Table). (let s : TocState = record { table = t; frozen = false } in s) in
    let found = found-by (λ (chunk : Chunk). chunk.at) (chunk_of c.args.chunks.now c.args.name.now) c.in-Some.place c.in-Some.ensures in
    let entry = λ (p : ℕ). with_entry (table_of c.args.toc.now.words) (record { key = c.args.key; place = p }) in (
      refl,
      c.in-Ok.ensures.fresh,
      (found.0, found.1, ap state (c.in-Ok.ensures.entered ∙ ap entry (c.of.ensures ∙ sym found.2))),
      λ name. refl,
    )

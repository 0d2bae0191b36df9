use Rattle.std.proofs.Common.{◌∙◌, ℕ, List, Some, ap, subst}
use Rattle.std.specs.BTreeMap.{BTreeMap}
use Rattle.std.specs.Global.{Vec}
use Rattle.region_words.specs.declared.chunk.Chunk.{Chunk}
use Rattle.shell_memory.proofs.ChunkLaws.{entered}
use Rattle.shell_memory.proofs.Placed.{Sets, sets}
use Rattle.shell_memory.specs.Names.{Puts}
use Rattle.shell_memory.specs.declared.chunks.Chunks.{Chunks}
use Rattle.shell_memory.proofs.chunks.Chunks.enter.Goals as goal

pub returns-in-Ok-clause-chunks : goal.returns-in-Ok-clause-chunks
returns-in-Ok-clause-chunks c =
    let old = c.args.self.now in
    let step = c.at_a_new_place-chunk in
    let named = c.put.new.self.named in
    let places = c.insert.new.self in
    let text = c.in_ok-name.name in
    let put_there = subst (λ (m : Chunks). Puts m.named named c.in_ok-key.key.items (Some step.result)) step.ensures.same.1 c.in_ok-put.ensures.puts in
    let put_it = subst (λ (chunk : Chunk). Puts old.named named c.in_ok-key.key.items (Some chunk)) step.ensures.same.0 put_there in
    let put = subst (λ (l : List ℕ). Puts old.named named l (Some c.args.chunk)) c.in_ok-key.ensures.items put_it in
    let set_there = sets c.word-place.result c.put.new.self.places places (Some text) c.in-Ok.ensures.updates in
    let set_in = subst (λ (m : BTreeMap ℕ (Vec ℕ)). Sets m places c.word-place.result (Some text)) (c.in_ok-put.ensures.places ∙ ap (λ (m : Chunks). m.places) step.ensures.same.1) set_there in
    let set = subst (λ (k : ℕ). Sets old.places places k (Some text)) c.word-place.ensures set_in in
    entered c.args.r.now old (record { named = named; places = places }) c.args.name.now c.args.chunk text c.requires.chunks c.requires.here c.requires.some c.requires.free step.ensures.place put set c.in_ok-name.ensures.items

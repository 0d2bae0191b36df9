use Rattle.std.proofs.Common.{◌∙◌, ℕ, List, None, Some, ap, sym, subst}
use Rattle.std.specs.BTreeMap.{BTreeMap}
use Rattle.std.specs.Global.{Vec}
use Rattle.region_words.specs.declared.chunk.Chunk.{Chunk}
use Rattle.shell_memory.proofs.ChunkLaws.{forgotten, kept}
use Rattle.shell_memory.proofs.Named.{puts_again, puts_twice}
use Rattle.shell_memory.proofs.Placed.{Sets, sets}
use Rattle.shell_memory.specs.Names.{Puts}
use Rattle.shell_memory.proofs.chunks.Chunks.free.Goals as goal

pub returns-in_default-clause-chunks : goal.returns-in_default-clause-chunks
returns-in_default-clause-chunks g c = kept c.args.r.now c.args.self.now c.take.new.self c.requires.chunks c.in_default.ensures.none.1 c.in_default.ensures.places

pub free-requires-clause-here : goal.free-requires-clause-here
free-requires-clause-here g c = c.requires.chunks.here c.args.name.now c.in-Some.chunk c.in-Some.ensures.chunk

pub returns-in-Ok-clause-chunks : goal.returns-in-Ok-clause-chunks
returns-in-Ok-clause-chunks g c =
    let old = c.args.self.now in
    let places = c.remove-name.new.self in
    let set_there = sets c.word-place.result c.take.new.self.places places None c.remove-name.ensures.updates in
    let set_in = subst (λ (m : BTreeMap ℕ (Vec ℕ)). Sets m places c.word-place.result None) c.in-Some.ensures.places set_there in
    let set = subst (λ (k : ℕ). Sets old.places places k None) c.word-place.ensures set_in in
    forgotten c.args.r.now old (record { named = c.take.new.self.named; places = places }) c.args.name.now c.in-Some.chunk c.requires.chunks c.in-Some.ensures.chunk c.in-Some.ensures.rest set

pub returns-in-Ok-clause-answer : goal.returns-in-Ok-clause-answer
returns-in-Ok-clause-answer g c = (c.in-Ok.ensures.area, (c.in-Some.chunk, c.in-Some.ensures.chunk, c.in-Ok.ensures.freed, c.in-Some.ensures.rest))

pub returns-in_ok-put-in-Err-clause-chunks : goal.returns-in_ok-put-in-Err-clause-chunks
returns-in_ok-put-in-Err-clause-chunks g c =
    let old = c.args.self.now in
    let put = subst (λ (l : List ℕ). Puts c.take.new.self.named c.put.new.self.named l (Some c.in-Err.field-0.chunk)) c.in-Some.ensures.key c.in_ok-put-in-Err.ensures.puts in
    let again = puts_twice old.named c.take.new.self.named c.put.new.self.named c.args.name.now None (Some c.in-Err.field-0.chunk) c.in-Some.ensures.rest put in
    let same = ap (λ (x : Chunk). Some x) c.in-Err.ensures.back ∙ sym c.in-Some.ensures.chunk in
    kept c.args.r.now old c.put.new.self c.requires.chunks (puts_again old.named c.put.new.self.named c.args.name.now (record { there = again.there ∙ same; others = again.others })) (c.in_ok-put-in-Err.ensures.places ∙ c.in-Some.ensures.places)

pub returns-in_ok-put-in-Err-clause-answer : goal.returns-in_ok-put-in-Err-clause-answer
returns-in_ok-put-in-Err-clause-answer g c =
    let old = c.args.self.now in
    let put = subst (λ (l : List ℕ). Puts c.take.new.self.named c.put.new.self.named l (Some c.in-Err.field-0.chunk)) c.in-Some.ensures.key c.in_ok-put-in-Err.ensures.puts in
    let again = puts_twice old.named c.take.new.self.named c.put.new.self.named c.args.name.now None (Some c.in-Err.field-0.chunk) c.in-Some.ensures.rest put in
    let same = ap (λ (x : Chunk). Some x) c.in-Err.ensures.back ∙ sym c.in-Some.ensures.chunk in
    (c.in-Err.ensures.area, (c.in-Some.chunk, c.in-Some.ensures.chunk, c.in-Err.ensures.stranger, puts_again old.named c.put.new.self.named c.args.name.now (record { there = again.there ∙ same; others = again.others })))

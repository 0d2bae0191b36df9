use Rattle.std.proofs.Common.{Some, inr, rules, refl, sym}
use Rattle.shell_memory.proofs.ChunkLaws.{loaded}
use Rattle.shell_memory.proofs.Named.{puts}
use Rattle.shell_memory.proofs.chunks.Chunks.load.Goals as goal

pub load_word-requires : goal.load_word-requires
load_word-requires c = c.requires.chunks.here c.args.name.now c.in-Some.chunk.now (sym c.in-Some.ensures.value)

pub returns-in-Some-clause-chunks : goal.returns-in-Some-clause-chunks
returns-in-Some-clause-chunks c =
    let new = c.load_word.new.chunk in
    let named = c.get_mut.follows.lender new in
    let put = puts c.args.name.now c.args.self.now.named named (Some new) ((c.get_mut.follows.holds new).3 (search rules)) in
    loaded c.args.r.now c.args.self.now (record { named = named; places = c.args.self.now.places }) c.args.name.now c.in-Some.chunk.now new c.args.word c.load_word.result c.requires.chunks (sym c.in-Some.ensures.value) put refl c.load_word.ensures

pub returns-in-Some-clause-answer : goal.returns-in-Some-clause-answer
returns-in-Some-clause-answer c =
    let new = c.load_word.new.chunk in
    let put = puts c.args.name.now c.args.self.now.named (c.get_mut.follows.lender new) (Some new) ((c.get_mut.follows.holds new).3 (search rules)) in
    inr (c.in-Some.chunk.now, new, sym c.in-Some.ensures.value, put, c.load_word.ensures)

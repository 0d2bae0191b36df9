use Rattle.std.proofs.Common.{◌≡◌, ◌++◌, ◌∷◌, []}
use Rattle.std.proofs.lemmas.List.Elements.{All-push, All-same}
use Rattle.region_words.specs.declared.chunk.Chunk.{Chunk}
use Rattle.uses_load.proofs.area.first_chunks.Goals as goal

pub loop-preserved : goal.loop-preserved
loop-preserved g c =
    let is_here = λ (chunk : Chunk). chunk.part.region ≡ c.args.r.now in
    record {
      own = c.alloc.ensures.own;
      here = All-same is_here c.push.new.self.items (c.loop.held.items ++ c.in-Ok.chunk ∷ []) c.in_ok-push.ensures.items (All-push is_here c.loop.held.items c.in-Ok.chunk c.loop.invariant.here c.in-Ok.ensures.here);
    }

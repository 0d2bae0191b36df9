use Rattle.std.proofs.Common.{◌*◌, List, [], ◌∷◌, length, length-append, sym, ap, subst, ◌∙◌, arith}
use Rattle.region_words.specs.declared.chunk.Chunk.{Chunk}
use Rattle.span_pools.specs.Legal.{AreFreed, EndsStrange, IsFreed, IsStranger}
use Rattle.span_pools.specs.Batch.{AreChunks, gone, places}
use Rattle.span_pools.specs.PoolView.{PoolView}
use Rattle.span_pools.proofs.Batches.{gone_more, chunks_last, said_of}
use Rattle.span_pools.proofs.pool.Pool.free_many.Goals as goal

pub free-requires : goal.free-requires
free-requires c =
    let i = c.loop.invariant in
    let last = chunks_last c.args.self.now.region (8 * c.args.self.now.layout.size) c.pop.new.self.items c.in-Some.object (subst (AreChunks c.args.self.now.region (8 * c.args.self.now.layout.size)) c.in-Some.ensures.items i.chunks) in
    record { here = (i.here, last.1.1 ∙ c.requires.here) }

pub returns-in-Err-clause-refused : goal.returns-in-Err-clause-refused
returns-in-Err-clause-refused c =
    let i = c.loop.invariant in
    let l = c.args.self.now.layout in
    let last = chunks_last c.args.self.now.region (8 * l.size) c.pop.new.self.items c.in-Some.object (subst (AreChunks c.args.self.now.region (8 * l.size)) c.in-Some.ensures.items i.chunks) in
    let more = gone_more c.args.objects.now.items c.loop.objects.items c.pop.new.self.items c.in-Some.object i.rest c.in-Some.ensures.items in
    subst (λ (cs : List Chunk). EndsStrange l c.args.self.now.state (places cs) c.free.new.self.state) (sym more.0)
    (c.loop.self.state, i.each, said_of (λ z b. IsStranger z c.loop.self.state c.in-Some.object.at b c.free.new.self.state) l c.loop.self.layout c.in-Some.object.bytes (ap (λ (v : PoolView). v.layout) i.same) last.1.0 c.in-Err.ensures.refused)

pub returns-in-Err-clause-back : goal.returns-in-Err-clause-back
returns-in-Err-clause-back c =
    let more = gone_more c.args.objects.now.items c.loop.objects.items c.pop.new.self.items c.in-Some.object c.loop.invariant.rest c.in-Some.ensures.items in
    (gone c.args.objects.now.items c.loop.objects.items, more.0 ∙ ap (λ (x : Chunk). x ∷ gone c.args.objects.now.items c.loop.objects.items) (sym c.in-Err.ensures.back))

pub loop-preserved : goal.loop-preserved
loop-preserved c =
    let i = c.loop.invariant in
    let e = c.in-Ok-None.ensures in
    let l = c.args.self.now.layout in
    let last = chunks_last c.args.self.now.region (8 * l.size) c.pop.new.self.items c.in-Some.object (subst (AreChunks c.args.self.now.region (8 * l.size)) c.in-Some.ensures.items i.chunks) in
    let more = gone_more c.args.objects.now.items c.loop.objects.items c.pop.new.self.items c.in-Some.object i.rest c.in-Some.ensures.items in
    record {
      here = ap (λ (v : PoolView). v.region) e.same ∙ i.here;
      same = e.same ∙ ap (λ (v : PoolView). record v { state = c.free.new.self.state }) i.same;
      count = omega (arith, ap length c.in-Some.ensures.items, length-append c.pop.new.self.items (c.in-Some.object ∷ []), i.count);
      room = c.in-Some.ensures.capacity ∙ i.room;
      rest = more.1;
      each = subst (λ (cs : List Chunk). AreFreed l c.args.self.now.state (places cs) c.free.new.self.state) (sym more.0)
          (c.loop.self.state, i.each, said_of (λ z b. IsFreed z c.loop.self.state c.in-Some.object.at b c.free.new.self.state) l c.loop.self.layout c.in-Some.object.bytes (ap (λ (v : PoolView). v.layout) i.same) last.1.0 (rw c.in-Ok-None.field-0-is at e.kept));
      chunks = last.0;
    }

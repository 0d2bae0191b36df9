use Rattle.std.proofs.Common.{◌≡◌, ℕ, ◌*◌, List, [], ◌∷◌, length, length-append, sym, ap, subst, ◌∙◌, arith}
use Rattle.span_pools.specs.declared.layout.Layout.{Layout}
use Rattle.span_pools.specs.Legal.{AreAllocs, IsAlloc}
use Rattle.span_pools.specs.Batch.{AreChunks, places}
use Rattle.span_pools.specs.PoolView.{PoolView}
use Rattle.span_pools.proofs.Batches.{allocs_next, chunks_next, places_next}
use Rattle.span_pools.proofs.pool.Pool.alloc_many.Goals as goal

pub loop-preserved : goal.loop-preserved
loop-preserved c =
    let i = c.loop.invariant in
    let e = c.in-Some.ensures in
    let l = c.args.self.now.layout in
    let same : c.loop.self.layout ≡ l = ap (λ (v : PoolView). v.layout) i.same in
    let region = ap (λ (v : PoolView). v.region) i.same in
    let more = c.push_reserved.ensures.items in
    record {
      here = ap (λ (v : PoolView). v.region) e.same ∙ i.here;
      same = e.same ∙ ap (λ (v : PoolView). record v { state = c.alloc.new.self.state }) i.same;
      count = omega (arith, ap length more, length-append c.loop.objects.items (c.in-Some.object ∷ []), i.count);
      room = c.push_reserved.ensures.capacity ∙ i.room;
      each = subst (λ (ats : List ℕ). AreAllocs l c.args.self.now.state ats c.alloc.new.self.state) (sym (ap places more ∙ places_next c.loop.objects.items c.in-Some.object))
          (allocs_next l c.args.self.now.state c.loop.self.state c.alloc.new.self.state (places c.loop.objects.items) c.in-Some.object.at i.each
          (subst (λ (z : Layout). IsAlloc z c.loop.self.state c.in-Some.object.at c.alloc.new.self.state) same e.given));
      chunks = subst (AreChunks c.args.self.now.region (8 * l.size)) (sym more) (chunks_next c.args.self.now.region (8 * l.size) c.loop.objects.items c.in-Some.object i.chunks
          (subst (λ (z : Layout). c.in-Some.object.bytes ≡ 8 * z.size) same e.chunk.0, e.chunk.1 ∙ region));
    }

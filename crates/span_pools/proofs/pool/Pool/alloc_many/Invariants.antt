use Rattle.std.proofs.Common.{◌≡◌, ◌*◌, length, vec_capacity}
use Rattle.span_pools.specs.Legal.{AreAllocs}
use Rattle.span_pools.specs.Batch.{AreChunks, places}
use Rattle.span_pools.proofs.pool.Pool.alloc_many.Given as goal

abbrev pub invariant-loop : goal.invariant-loop
invariant-loop l = record {
  here : l.self.region ≡ l.r;
  same : l.self ≡ record l.fn.self { state = l.self.state };
  count : length l.objects.items ≡ l.counter;
  room : vec_capacity l.objects ≡ vec_capacity l.fn.objects;
  each : AreAllocs l.fn.self.layout l.fn.self.state (places l.objects.items) l.self.state;
  chunks : AreChunks l.fn.self.region (8 * l.fn.self.layout.size) l.objects.items;
}

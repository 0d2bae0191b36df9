use Rattle.std.proofs.Common.{◌≡◌, ◌*◌, ◌+◌, ◌++◌, length, vec_capacity}
use Rattle.span_pools.specs.Legal.{AreFreed}
use Rattle.span_pools.specs.Batch.{AreChunks, gone, places}
use Rattle.span_pools.proofs.pool.Pool.free_many.Given as goal

abbrev pub invariant-loop : goal.invariant-loop
invariant-loop l = record {
  here : l.self.region ≡ l.r;
  same : l.self ≡ record l.fn.self { state = l.self.state };
  count : length l.objects.items + l.counter ≡ length l.fn.objects.items;
  room : vec_capacity l.objects ≡ vec_capacity l.fn.objects;
  rest : l.fn.objects.items ≡ l.objects.items ++ gone l.fn.objects.items l.objects.items;
  each : AreFreed l.fn.self.layout l.fn.self.state (places (gone l.fn.objects.items l.objects.items)) l.self.state;
  chunks : AreChunks l.fn.self.region (8 * l.fn.self.layout.size) l.objects.items;
}

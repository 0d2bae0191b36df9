use Rattle.std.proofs.Common.{◌≡◌, ◌≤◌, ◌+◌, ◌++◌, length, map, vec_len, vec_capacity}
use Rattle.std.specs.Vec.Iter.{into_iter_items}
use Rattle.page_cache.proofs.threads.passes_of.Given as goal

abbrev pub invariant-loop-seat : goal.invariant-loop-seat
invariant-loop-seat l = record {
  room : vec_len l.passes + length (into_iter_items l.seat-iterator) ≤ vec_capacity l.passes;
  passes : l.passes.items ++ map (λ d. d.0.pass) (into_iter_items l.seat-iterator) ≡ map (λ d. d.0.pass) l.fn.seats.items;
}

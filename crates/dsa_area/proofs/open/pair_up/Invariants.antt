use Rattle.std.proofs.Common.{◌≡◌, ◌≤◌, ◌+◌, ◌++◌, length, map, vec_capacity, vec_len}
use Rattle.std.specs.List.{zip}
use Rattle.std.specs.Vec.Iter.{into_iter_items, into_iter_len}
use Rattle.dsa_area.specs.declared.area.AreaPass.{AreaPass}
use Rattle.dsa_area.proofs.open.pair_up.Given as goal

abbrev pub invariant-loop-pages : goal.invariant-loop-pages
invariant-loop-pages l = record {
  paired : l.passes.items ++ map {B = AreaPass} (λ x. record { pages = x.0; pools = x.1 }) (zip (into_iter_items l.pages-iterator) (into_iter_items l.rest)) ≡ map {B = AreaPass} (λ x. record { pages = x.0; pools = x.1 }) (zip l.fn.pages.items l.fn.pools.items);
  as_many : length (into_iter_items l.rest) ≡ length (into_iter_items l.pages-iterator);
  room : vec_len l.passes + into_iter_len l.pages-iterator ≤ vec_capacity l.passes;
}

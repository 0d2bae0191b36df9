use Rattle.std.proofs.Common.{◌≡◌, ◌≤◌, ◌+◌, ◌++◌, length, map, vec_capacity, vec_len}
use Rattle.std.specs.List.{zip}
use Rattle.std.specs.Vec.Iter.{into_iter_items, into_iter_len}
use Rattle.dsa_area.specs.declared.area.AreaPass.{AreaPass}
use Rattle.agg_table.specs.declared.part.HashSeat.{HashSeat}
use Rattle.agg_table.proofs.opening.pair_up.Given as goal

abbrev pub invariant-loop-area : goal.invariant-loop-area
invariant-loop-area l = record {
  paired : l.seats.items ++ map {B = HashSeat} (λ (x : AreaPass × _). record { area = x.0; table = x.1 }) (zip (into_iter_items l.area-iterator) (into_iter_items l.rest)) ≡ map {B = HashSeat} (λ (x : AreaPass × _). record { area = x.0; table = x.1 }) (zip l.fn.areas.items l.fn.tables.items);
  as_many : length (into_iter_items l.rest) ≡ length (into_iter_items l.area-iterator);
  room : vec_len l.seats + into_iter_len l.area-iterator ≤ vec_capacity l.seats;
}

use Rattle.std.proofs.Common.{◌≡◌, ◌≤◌, ◌+◌, map, vec_capacity, vec_len}
use Rattle.std.specs.Vec.Iter.{into_iter_len}
use Rattle.agg_table.specs.declared.part.HashSeat.{HashSeat}
use Rattle.agg_table.proofs.close.take_apart.Given as goal

abbrev pub invariant-loop-seat : goal.invariant-loop-seat
invariant-loop-seat l =
    (l.tables.items ≡ map (λ (s : HashSeat). s.table) l.yielded) × (l.areas.items ≡ map (λ (s : HashSeat). s.area) l.yielded)
    × (vec_len l.tables + into_iter_len l.seat-iterator ≤ vec_capacity l.tables) × (vec_len l.areas + into_iter_len l.seat-iterator ≤ vec_capacity l.areas)

use Rattle.std.proofs.Common.{◌≡◌, ◌≤◌, ◌+◌, ◌++◌, [], All, length, map, vec_capacity, vec_len}
use Rattle.std.specs.Vec.Iter.{into_iter_items}
use Rattle.hash_join.specs.declared.filling.Filler.{Filler}
use Rattle.hash_join.proofs.gathering.fillers.Given as goal

abbrev pub invariant-loop-claim : goal.invariant-loop-claim
invariant-loop-claim l = record {
  areas : map (λ (f : Filler). f.area) l.fillers.items ++ into_iter_items l.areas ≡ l.fn.passes.areas.items;
  tables : map (λ (f : Filler). f.table) l.fillers.items ++ into_iter_items l.tables ≡ l.fn.passes.tables.items;
  claims : map (λ (f : Filler). f.claim) l.fillers.items ++ into_iter_items l.claim-iterator ≡ l.fn.seats.items;
  new : All (λ (f : Filler). (f.links.items ≡ []) × (f.spilled.items ≡ [])) l.fillers.items;
  many_areas : length (into_iter_items l.areas) ≡ length (into_iter_items l.claim-iterator);
  many_tables : length (into_iter_items l.tables) ≡ length (into_iter_items l.claim-iterator);
  room : vec_len l.fillers + length (into_iter_items l.claim-iterator) ≤ vec_capacity l.fillers;
}

use Rattle.std.proofs.Common.{◌≡◌, ◌++◌, length, map, take}
use Rattle.std.specs.List.{flat_map}
use Rattle.join_pairs.specs.Gathered.{HasChains, HasPlaces}
use Rattle.join_pairs.specs.declared.chains.Link.{Link}
use Rattle.join_pairs.proofs.chaining.chain_all.Given as goal

abbrev pub invariant-loop-list : goal.invariant-loop-list
invariant-loop-list g l =
    HasPlaces l.chains × (length l.chains.befores.items ≡ length l.rows)
    × HasChains l.rows l.column (map (λ (l : Link). l.row) (flat_map (λ v. v.items) l.links.items) ++ flat_map (λ v. v.items) (take l.list-index l.spilled.items)) (g.L.Lasts.last_of l.table) l.chains

use Rattle.std.proofs.Common.{◌≡◌, ◌++◌, ℕ, List, length, take}
use Rattle.join_pairs.specs.Gathered.{AreApart, HasChains, HasPlaces}
use Rattle.join_pairs.proofs.chaining.add_rows.Given as goal

abbrev pub invariant-loop-row : goal.invariant-loop-row
invariant-loop-row g l =
    HasPlaces l.chains × (length l.chains.befores.items ≡ length l.initial.chains.befores.items)
    × ((known : List ℕ) → AreApart known l.list → HasChains l.rows l.column known (g.L.Lasts.last_of l.table) l.initial.chains → HasChains l.rows l.column (known ++ take l.row-index l.list) (g.L.Lasts.last_of l.table) l.chains)

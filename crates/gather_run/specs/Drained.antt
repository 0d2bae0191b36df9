-- What is in the table of groups when all participants are home, and what comes of it.
use Rattle.std.specs.Prelude.{◌≡◌, ℕ, Option, Some, None}
use Rattle.agg_cell.specs.Called.{Seen}
use Rattle.agg_table.specs.Drained.{AddsTable}
use Rattle.partial_agg.specs.Groups.{GroupsByKey}

-- the entries of a table with these histories, if there is one, were added to a map
abbrev pub AddsAll : Option Seen → GroupsByKey → GroupsByKey → Type 0
AddsAll None before now = now ≡ before
AddsAll (Some history) before now = AddsTable history before now

-- a table shows the same histories as before
abbrev pub SameHistories : Option Seen → Option Seen → Type 0
SameHistories None None = Unit {0}
SameHistories (Some old) (Some new) = (i : ℕ) → new i ≡ old i
SameHistories None (Some new) = ⊥
SameHistories (Some old) None = ⊥

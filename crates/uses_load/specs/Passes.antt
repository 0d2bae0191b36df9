-- The two passes of a caller, one of a table and one of its area.
use Rattle.std.specs.Prelude.{◌≡◌, ℕ, List, Option}
use mathlib.Core.Option.{some}
use lib.ListN.{get_elem?}
use Rattle.dsa_area.specs.declared.area.Area.{Area}
use Rattle.dsa_area.specs.Shown as area
use Rattle.dshash_parts.specs.declared.table.Dshash.{Dshash}
use Rattle.dshash_parts.specs.Tables as table
use Rattle.dshash_numbers.specs.declared.number.Number.{Number}
use Rattle.dshash_numbers.specs.declared.number.NumberCall.{NumberCall}
use Rattle.uses_load.specs.declared.table.Passes.{Passes}

-- the passes are of this table and of this area
abbrev pub HasBoth : Dshash Number ℕ NumberCall (Option ℕ) → Area → Passes → Type 0
HasBoth t a p = table.Belongs t p.table × area.Belongs a p.area

-- each caller's are
abbrev pub AreBoth : Dshash Number ℕ NumberCall (Option ℕ) → Area → List Passes → Type 0
AreBoth t a passes = (i : ℕ) (p : Passes) → get_elem? passes i ≡ some p → HasBoth t a p

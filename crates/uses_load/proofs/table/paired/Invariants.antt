use Rattle.std.proofs.Common.{◌≡◌, ℕ, ◌+◌, length}
use mathlib.Core.Option.{some}
use lib.ListN.{get_elem?}
use Rattle.dsa_area.specs.Shown as area
use Rattle.dshash_parts.specs.Tables as table
use Rattle.uses_load.specs.Passes.{AreBoth}
use Rattle.uses_load.proofs.table.paired.Given as goal

abbrev pub invariant-loop-pass : goal.invariant-loop-pass
invariant-loop-pass l = record {
  own : (i : ℕ) (p : _) → get_elem? l.passes.items i ≡ some p → table.Belongs l.table p;
  area_own : (i : ℕ) (p : _) → get_elem? l.apasses.items i ≡ some p → area.Belongs l.area p;
  both : AreBoth l.table l.area l.both.items;
  alike : length l.passes.items ≡ length l.apasses.items;
  count : length l.both.items + length l.passes.items ≡ length l.fn.passes.items;
}

abbrev pub decreases-loop-pass : goal.decreases-loop-pass
decreases-loop-pass l = length l.passes.items

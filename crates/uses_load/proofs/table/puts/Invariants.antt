use Rattle.std.proofs.Common.{◌≡◌, ◌≤◌}
use Rattle.size_classes.specs.Classes.{class_size}
use Rattle.dsa_area.specs.Sizes.{chunk_size}
use Rattle.area_spares.specs.Spares.{IsSpares, class_of}
use Rattle.dshash_parts.specs.Tables.{IsSpare, item_of}
use Rattle.uses_load.specs.Passes.{HasBoth}
use Rattle.uses_load.proofs.table.puts.Given as goal

abbrev pub invariant-loop-at : goal.invariant-loop-at
invariant-loop-at g l = record {
  own : HasBoth l.table l.area l.passes;
  spares : IsSpares l.r l.spares;
  size : class_size (class_of l.spares) ≡ chunk_size (item_of l.table);
  spare : IsSpare l.r l.table l.spare;
  few : l.new ≤ l.at;
}

use Rattle.std.proofs.Common.{◌≡◌, ◌++◌, drop, pos, take}
use Rattle.std.specs.List.{AllByRecursion}
use Rattle.key_index.specs.Front.{IsFrontOf}
use Rattle.row_lists.specs.Carried.{IsValue, values_bytes}
use Rattle.row_lists.proofs.list.write_values.Given as goal

abbrev pub invariant-loop-value : goal.invariant-loop-value
invariant-loop-value l = record {
  whole : l.bytes.items ++ values_bytes l.last (drop l.value-index l.values) ≡ l.fn.bytes.items ++ values_bytes (pos 0) l.values;
  front : IsFrontOf l.fn.bytes.items l.bytes.items;
  values : AllByRecursion IsValue (take l.value-index l.values);
}

use Rattle.std.proofs.Common.{◌≡◌, ◌≤◌, ◌*◌, take}
use Rattle.std.specs.List.{sum_by}
use Rattle.dshash_numbers.proofs.table.sum_of.Given as goal

abbrev pub invariant-loop-entry : goal.invariant-loop-entry
invariant-loop-entry l = record {
  so_far : l.sum ≡ sum_by (λ e. e.state) (take l.entry-index l.entries);
  bound : l.sum ≤ 18446744073709551616 * l.entry-index;
}

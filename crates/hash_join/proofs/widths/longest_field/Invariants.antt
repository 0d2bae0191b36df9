use Rattle.std.proofs.Common.{◌≡◌}
use Rattle.hash_join.specs.Widths.{longest_of}
use Rattle.hash_join.proofs.widths.longest_field.Given as goal

abbrev pub invariant-loop-at : goal.invariant-loop-at
invariant-loop-at l = l.longest ≡ longest_of l.rows l.column l.at

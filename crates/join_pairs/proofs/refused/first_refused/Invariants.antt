use Rattle.std.proofs.Common.{◌<◌, ◌≤◌, ℕ}
use Rattle.csv_rows.specs.Records.{field_of}
use Rattle.rel_pointer.specs.Bytes.{AllBytes}
use Rattle.join_pairs.specs.Join.{IsAccepted}
use Rattle.join_pairs.proofs.refused.first_refused.Given as goal

abbrev pub invariant-loop-row : goal.invariant-loop-row
invariant-loop-row l = record {
  accepted : (other : ℕ) → 1 ≤ other → other < l.row → IsAccepted l.rows l.column other;
  bytes : (other : ℕ) → 1 ≤ other → other < l.row → AllBytes (field_of l.rows other l.column);
}

use Rattle.std.proofs.Common.{◌≡◌, ◌≤◌, ◌-◌, ◌++◌, drop, length}
use Rattle.csv_rows.specs.Plain.{NoReturn, plain_records}
use Rattle.csv_rows.proofs.lines.with_line_feeds.Given as goal

abbrev pub invariant-returns : goal.invariant-returns
invariant-returns l = record {
  within : l.at ≤ length l.text;
  lines : NoReturn l.bytes.items;
  same : plain_records (l.bytes.items ++ drop l.at l.text) ≡ plain_records l.text;
}

abbrev pub decreases-returns : goal.decreases-returns
decreases-returns l = length l.text - l.at

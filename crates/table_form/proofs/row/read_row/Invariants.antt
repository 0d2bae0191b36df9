use Rattle.std.proofs.Common.{◌≡◌, ◌≤◌, [], length}
use Rattle.csv.specs.Records.{fields_of, partial_of}
use Rattle.table_form.proofs.Rows.{ReadsRow}
use Rattle.table_form.proofs.row.read_row.Given as goal

-- the fields that were read, and those that are left of the row
abbrev pub invariant-fields : goal.invariant-fields
invariant-fields l = record {
  reads : ReadsRow l.text (fields_of l.row) l.left;
  partial : partial_of l.row ≡ [];
  within : length l.left ≤ length l.text;
}

abbrev pub decreases-fields : goal.decreases-fields
decreases-fields l = length l.left

use Rattle.std.proofs.Common.{◌≡◌, ◌++◌, ◌-◌, []}
use Rattle.csv.specs.Records.{fields_of, partial_of}
use Rattle.result_text.specs.KeyColumns.{columns_in}
use Rattle.result_text.proofs.values.push_columns.Given as goal

-- what the record has, and then the columns that are left
abbrev pub invariant-loop-at : goal.invariant-loop-at
invariant-loop-at l = record {
  fields : fields_of l.row ++ columns_in (l.columns - l._at) l.rest ≡ fields_of l.fn.row ++ columns_in l.columns l.key;
  whole : partial_of l.row ≡ [];
}

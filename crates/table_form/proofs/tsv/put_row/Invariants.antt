use Rattle.std.proofs.Common.{◌≡◌, ◌++◌, ◌∷◌, [], take}
use Rattle.std.specs.List.{join_by}
use Rattle.csv.specs.Records.{fields_of}
use Rattle.table_form.specs.Tsv.{tsv_field}
use Rattle.table_form.proofs.tsv.put_row.Given as goal

-- the fields so far
abbrev pub invariant-fields : goal.invariant-fields
invariant-fields l = l.out.items ≡ l.fn.out.items ++ join_by tsv_field (9 ∷ []) (take l.at (fields_of l.row))

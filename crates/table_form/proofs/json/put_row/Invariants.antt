use Rattle.std.proofs.Common.{◌≡◌, ◌++◌, ◌∷◌, []}
use Rattle.std.specs.List.{join_by, range_with_len}
use Rattle.csv.specs.Records.{fields_of}
use Rattle.table_form.specs.Json.{json_member}
use Rattle.table_form.proofs.json.put_row.Given as goal

-- the members so far
abbrev pub invariant-fields : goal.invariant-fields
invariant-fields l = l.out.items ≡ (l.fn.out.items ++ 123 ∷ []) ++ join_by (json_member l.keys (fields_of l.names) (fields_of l.row)) (44 ∷ []) (range_with_len 0 l.at)

use Rattle.std.proofs.Common.{◌≡◌, [], map, take}
use Rattle.csv.specs.Records.{fields_of, partial_of}
use Rattle.table_form.specs.Json.{json_name}
use Rattle.table_form.proofs.json.name_texts.Given as goal

-- the names so far
abbrev pub invariant-loop-at : goal.invariant-loop-at
invariant-loop-at l = record {
  names : fields_of l.names ≡ map json_name (take l.at (fields_of l.header));
  partial : partial_of l.names ≡ [];
}

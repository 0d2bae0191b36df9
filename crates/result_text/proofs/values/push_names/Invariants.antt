use Rattle.std.proofs.Common.{◌≡◌, ◌++◌, [], take}
use Rattle.csv.specs.Records.{fields_of, partial_of}
use Rattle.result_text.proofs.values.push_names.Given as goal

abbrev pub invariant-loop-at : goal.invariant-loop-at
invariant-loop-at l = record {
  fields : fields_of l.row ≡ fields_of l.fn.row ++ take l.at l.plan.plan.groups;
  whole : partial_of l.row ≡ [];
}

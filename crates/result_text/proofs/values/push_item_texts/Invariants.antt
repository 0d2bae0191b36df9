use Rattle.std.proofs.Common.{◌≡◌, ◌++◌, [], map, take}
use Rattle.csv.specs.Records.{fields_of, partial_of}
use Rattle.par_model.specs.Table.{item_text}
use Rattle.result_text.proofs.values.push_item_texts.Given as goal

abbrev pub invariant-loop-at : goal.invariant-loop-at
invariant-loop-at l = record {
  fields : fields_of l.row ≡ fields_of l.fn.row ++ take l.at (map item_text l.plan.plan.items);
  whole : partial_of l.row ≡ [];
}

use Rattle.std.proofs.Common.{◌≡◌, ◌≤◌, ◌-◌, length}
use Rattle.found_rows.specs.Found.{records_from}
use Rattle.found_rows.specs.Masks.{IsBlock}
use Rattle.found_rows.specs.Spans.{AreSpans, fields_in}
use Rattle.found_rows.proofs.Records.{rest_of}
use Rattle.found_rows.proofs.found.find_fields.Given as goal

-- the record is what was found of it and the rest
abbrev pub invariant-fields : goal.invariant-fields
invariant-fields l = record {
  within : l.from ≤ length l.text;
  block : IsBlock l.text l.block;
  reached : l.block.base ≤ l.from;
  spans : AreSpans l.text l.spans;
  law : records_from l.text l.start ≡ rest_of l.text (fields_in l.text l.spans) l.from;
}

abbrev pub decreases-fields : goal.decreases-fields
decreases-fields l = length l.text - l.from

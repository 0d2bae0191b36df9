use Rattle.std.proofs.Common.{length}
use Rattle.csv.specs.Records.{fields_of}
use Rattle.table_form.specs.Json.{json_row}
use Rattle.table_form.proofs.Walks.{Walks}
use Rattle.table_form.proofs.json.put_rows.Given as goal

-- what is left of the text, and what was put of the rows before it
abbrev pub invariant-rows : goal.invariant-rows
invariant-rows l = Walks (json_row l.keys (fields_of l.names)) l.text l.left l.fn.out.items l.out.items

abbrev pub decreases-rows : goal.decreases-rows
decreases-rows l = length l.left

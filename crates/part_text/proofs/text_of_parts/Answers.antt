use Rattle.std.proofs.Common.{◌++◌, drop, length}
use Rattle.std.specs.List.{concat}
use Rattle.csv_rows.specs.Records.{record_at, records_of}
use Rattle.result_text.specs.Pieces.{joined}
use Rattle.part_text.proofs.WholeText.{answers_whole, are_shared}
use Rattle.part_text.proofs.text_of_parts.Goals as goal

pub table_text-requires-clause-bound : goal.table_text-requires-clause-bound
table_text-requires-clause-bound g c κs within = record { header = record_at (records_of c.requires.0) 0; is = c.requires.2.bound }

pub table_text-requires-clause-rows : goal.table_text-requires-clause-rows
table_text-requires-clause-rows g c κs within = (
  length (record_at (records_of c.requires.0) 0),
  drop 1 (records_of (c.requires.0 ++ concat c.requires.1)),
  c.requires.2.few,
  are_shared c.args.plan.now.plan c.args.bound.now c.requires.0 c.requires.1 c.args.maps.items c.requires.2,
)

pub returns-in-Ok : goal.returns-in-Ok
returns-in-Ok g c = λ header tiles h.
    let head = record_at (records_of header) 0 in
    let rows = drop 1 (records_of (header ++ concat tiles)) in
    let names = c.args.plan.now.plan in
    let bound = c.args.bound.now in
    let maps = c.args.maps.items in
    answers_whole names bound header tiles maps h (joined c.in-Ok.pieces.items)
    (c.in-Ok.ensures head (length head) rows h.bound h.few (are_shared names bound header tiles maps h))

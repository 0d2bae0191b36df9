use Rattle.std.proofs.Common.{[], ◌++◌, ◌∷◌, ◌∙◌, ℕ, List, Option, arith, refl, rules}
use Rattle.csv_rows.specs.Records.{record_at}
use Rattle.row_blocks.specs.Blocks.{Table}
use Rattle.split_run.specs.Pieces.{rows_of}
use Rattle.stream_groups.specs.Reading.{HasRows}
use Rattle.stream_groups.specs.Stops.{Tells}
use Rattle.stream_groups.specs.Ways.{of_text}
use Rattle.stream_groups.proofs.Refusals.{begins, have_columns}
use Rattle.stream_groups.proofs.Streams.{one_record}
use Rattle.stream_groups.proofs.reading.end.Goals as goal

pub add_batch-requires-clause-columns : goal.add_batch-requires-clause-columns
add_batch-requires-clause-columns g c κs within =
    let s = c.args.stream in
    have_columns c.args.plan.now (record_at s.header 0) c.args.bound c.requires.stream.bound s.batch.pieces.items c.requires.stream.batch.pieces

pub add_batch-requires-clause-feeds : goal.add_batch-requires-clause-feeds
add_batch-requires-clause-feeds g c κs within = let b = c.requires.stream.batch in omega (arith, b.counted, b.few_feeds)

pub returns-in_err-add_batch-clause-why : goal.returns-in_err-add_batch-clause-why
returns-in_err-add_batch-clause-why g c =
    let s = c.args.stream in
    let header = record_at s.header 0 in
    let here : (from left : Option (List ℕ)) (rows : Table) → HasRows c.args.plan.now.reading c.args.bound from left s rows → Tells (of_text c.args.plan.now.reading) c.args.plan.now from c.in_err-add_batch.field-0.0 = λ from left rows has.
    c.in_err-add_batch.ensures.why from left header rows c.requires.stream.bound c.requires.stream.batch.pieces has.added
    (begins c.args.plan.now.reading from left (header ∷ (rows ++ rows_of s.batch.pieces.items)) s.batch.feeds s.batch.next.rest s.is_last has.reaches) has.part in
    search rules

pub returns-clause-groups : goal.returns-clause-groups
returns-clause-groups g c =
    let s = c.args.stream in
    let header = record_at s.header 0 in
    let adds = c.in_ok-add_batch.ensures.added in
    let h = c.requires.stream.batch in
    λ from left rows has.
    let all = adds.rows header rows c.requires.stream.batch.pieces has.added in
    record {
      header = header;
      rows = rows ++ rows_of s.batch.pieces.items;
      one = c.in_ok-header.ensures ∙ (h.line ∙ (one_record s.header (s.header ++ []) [] h.one refl).1);
      count = all.count;
      bound = c.requires.stream.bound;
      groups = all.groups;
      few = omega (arith, all.count, adds.few);
      all = has.reaches.all c.requires.last;
    }

use Rattle.std.proofs.Common.{[], ℕ, List, append-nil, map, subst}
use Rattle.csv.specs.Writing.{default_writer, row_text}
use Rattle.csv_rows.specs.Records.{record_at}
use Rattle.par_model.specs.Table.{table_text}
use Rattle.answer_text.specs.Held.{Puts}
use Rattle.answer_text.proofs.Going.{puts-then}
use Rattle.answer_text.proofs.RowLines.{text-first}
use Rattle.order_query.proofs.rows.put_all.Goals as goal

pub returns-clause-puts : goal.returns-clause-puts
returns-clause-puts g c =
    let taken = g.O.Sink.taken in
    let faults = g.O.Sink.faults in
    let header = record_at c.args.rows.now 0 in
    let rows = table_text (map (record_at c.args.rows.now) c.args.numbers.now) in
    let Header : List (List ℕ) → Type 0 = λ fields. Puts taken faults c.args.out.now c.put_record.new.out c.args.held.now c.put_record.new.held (row_text default_writer fields) in
    let Rest : List ℕ → Type 0 = Puts taken faults c.put_record.new.out c.pass_on.new.out c.put_record.new.held c.pass_on.new.self in
    let All : List ℕ → Type 0 = Puts taken faults c.args.out.now c.pass_on.new.out c.args.held.now c.pass_on.new.self in
    let rest = puts-then taken faults c.put_record.new.out c.put_in_threads.new.out c.pass_on.new.out c.put_record.new.held c.put_in_threads.new.held c.pass_on.new.self rows [] c.put_in_threads.ensures c.pass_on.ensures.puts in
    subst All (text-first header (map (record_at c.args.rows.now) c.args.numbers.now))
    (puts-then taken faults c.args.out.now c.put_record.new.out c.pass_on.new.out c.args.held.now c.put_record.new.held c.pass_on.new.self (row_text default_writer header) rows (subst Header c.find.ensures c.put_record.ensures)
    (subst Rest (append-nil rows) rest))

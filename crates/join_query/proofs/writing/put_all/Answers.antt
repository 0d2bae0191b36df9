use Rattle.std.proofs.Common.{◌≡◌, ◌++◌, [], ℕ, List, append-nil, ap₂, map, subst}
use Rattle.csv.specs.Writing.{default_writer, row_text}
use Rattle.csv_rows.specs.Records.{record_at}
use Rattle.par_model.specs.Table.{table_text}
use Rattle.answer_text.specs.Held.{Puts}
use Rattle.answer_text.proofs.Going.{puts-then}
use Rattle.answer_text.proofs.RowLines.{text-first}
use Rattle.join_query.specs.Writable.{beside}
use Rattle.join_query.proofs.writing.put_all.Goals as goal

pub returns-clause-puts : goal.returns-clause-puts
returns-clause-puts g c =
    let taken = g.O.Sink.taken in
    let faults = g.O.Sink.faults in
    let left = c.args.left.now in
    let right = c.args.right.now in
    let header = record_at left 0 ++ record_at right 0 in
    let records = map (beside left right) c.args.pairs.now in
    let rows = table_text records in
    let Header : List (List ℕ) → Type 0 = λ fields. Puts taken faults c.args.out.now c.put_beside.new.out c.args.held.now c.put_beside.new.held (row_text default_writer fields) in
    let Rest : List ℕ → Type 0 = Puts taken faults c.put_beside.new.out c.pass_on.new.out c.put_beside.new.held c.pass_on.new.self in
    let All : List ℕ → Type 0 = Puts taken faults c.args.out.now c.pass_on.new.out c.args.held.now c.pass_on.new.self in
    let both : c.find.result ++ c.find-2.result ≡ header = ap₂ (λ (a b : List (List ℕ)). a ++ b) c.find.ensures c.find-2.ensures in
    let rest = puts-then taken faults c.put_beside.new.out c.put_in_threads.new.out c.pass_on.new.out c.put_beside.new.held c.put_in_threads.new.held c.pass_on.new.self rows [] c.put_in_threads.ensures c.pass_on.ensures.puts in
    subst All (text-first header records)
    (puts-then taken faults c.args.out.now c.put_beside.new.out c.pass_on.new.out c.args.held.now c.put_beside.new.held c.pass_on.new.self (row_text default_writer header) rows (subst Header both c.put_beside.ensures)
    (subst Rest (append-nil rows) rest))

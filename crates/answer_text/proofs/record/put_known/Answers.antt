use Rattle.std.proofs.Common.{◌++◌, ◌∷◌, [], ℕ, List, if◌then◌else◌, subst}
use Rattle.csv.specs.Writing.{default_writer, is_blank, row_body}
use Rattle.answer_text.specs.Held.{Puts}
use Rattle.answer_text.proofs.Going.{puts-then}
use Rattle.answer_text.proofs.record.put_known.Goals as goal

pub returns : goal.returns
returns g c =
    let taken = g.O.Sink.taken in
    let faults = g.O.Sink.faults in
    let row = c.args.row.now in
    let End : List ℕ → Type 0 = Puts taken faults c.put_known_fields.new.out c.put.new.out c.put_known_fields.new.held c.put.new.self in
    puts-then taken faults c.args.out.now c.put_known_fields.new.out c.put.new.out c.args.held.now c.put_known_fields.new.held c.put.new.self (row_body default_writer row)
    ((if is_blank default_writer row then 34 ∷ 34 ∷ [] else []) ++ 10 ∷ []) c.put_known_fields.ensures (subst End c.row_end.ensures c.put.ensures)

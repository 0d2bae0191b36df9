use Rattle.std.proofs.Common.{◌++◌, ◌∷◌, [], ℕ, List, subst}
use Rattle.csv.specs.Writing.{default_writer, row_body}
use Rattle.answer_text.specs.Held.{Puts}
use Rattle.answer_text.proofs.Going.{puts-then}
use Rattle.join_query.proofs.Besides.{row-beside}
use Rattle.join_query.proofs.writing.put_beside.Goals as goal

pub returns : goal.returns
returns g c =
    let taken = g.O.Sink.taken in
    let faults = g.O.Sink.faults in
    let left = row_body default_writer c.args.left.now in
    let right = row_body default_writer c.args.right.now in
    let Text : List ℕ → Type 0 = Puts taken faults c.args.out.now c.put-2.new.out c.args.held.now c.put-2.new.self in
    let ended = puts-then taken faults c.put.new.out c.put_fields-2.new.out c.put-2.new.out c.put.new.self c.put_fields-2.new.held c.put-2.new.self right (10 ∷ []) c.put_fields-2.ensures c.put-2.ensures in
    let behind = puts-then taken faults c.put_fields.new.out c.put.new.out c.put-2.new.out c.put_fields.new.held c.put.new.self c.put-2.new.self (44 ∷ []) (right ++ 10 ∷ []) c.put.ensures ended in
    subst Text (row-beside c.args.left.now c.args.right.now c.requires.left c.requires.right)
    (puts-then taken faults c.args.out.now c.put_fields.new.out c.put-2.new.out c.args.held.now c.put_fields.new.held c.put-2.new.self left (44 ∷ (right ++ 10 ∷ [])) c.put_fields.ensures behind)

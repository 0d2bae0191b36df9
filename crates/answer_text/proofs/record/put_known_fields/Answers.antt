use Rattle.std.proofs.Common.{◌<◌, ◌++◌, [], ℕ, List, arith, get_or, length, subst, sym, take}
use Rattle.csv.proofs.WriteFacts.{row-step}
use Rattle.csv.specs.Writing.{default_writer, field_text, next_sep, row_body}
use Rattle.answer_text.specs.Held.{Puts}
use Rattle.answer_text.proofs.Going.{puts-then}
use Rattle.answer_text.proofs.record.put_known_fields.Goals as goal

pub loop-at-preserved : goal.loop-at-preserved
loop-at-preserved g c =
    let taken = g.O.Sink.taken in
    let faults = g.O.Sink.faults in
    let row = c.args.row.now in
    let i = c.loop-at.at in
    let lt : i < length row = omega (arith, c.loop-at-test.true, c.width-at-end.ensures) in
    let Text : List ℕ → Type 0 = Puts taken faults c.args.out.now c.put_field.new.out c.args.held.now c.put_field.new.held in
    let Before : List ℕ → Type 0 = Puts taken faults c.loop-at.out c.put.new.out c.loop-at.held c.put.new.self in
    let Field : List ℕ → Type 0 = λ field. Puts taken faults c.put.new.out c.put_field.new.out c.put.new.self c.put_field.new.held (field_text default_writer field) in
    let comma = subst Before c.separator.ensures c.put.ensures in
    let field = subst Field c.field.ensures c.put_field.ensures in
    let one = puts-then taken faults c.loop-at.out c.put.new.out c.put_field.new.out c.loop-at.held c.put.new.self c.put_field.new.held (next_sep default_writer i) (field_text default_writer (get_or row i [])) comma field in
    subst Text (sym (row-step default_writer row i lt))
    (puts-then taken faults c.args.out.now c.loop-at.out c.put_field.new.out c.args.held.now c.loop-at.held c.put_field.new.held (row_body default_writer (take i row)) (next_sep default_writer i ++ field_text default_writer (get_or row i []))
    c.loop-at.invariant one)

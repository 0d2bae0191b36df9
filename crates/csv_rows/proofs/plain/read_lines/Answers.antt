use Rattle.std.proofs.Common.{◌<◌, ◌≤◌, ◌∙◌, length, sym, ap, arith, rules}
use Rattle.std.proofs.lemmas.Grind.{common_steps}
use Rattle.csv_rows.proofs.Splits.{whole-length}
use Rattle.csv_rows.proofs.plain.read_lines.Goals as goal

pub returns-in-Ok-true-2-clause-too_many : goal.returns-in-Ok-true-2-clause-too_many
returns-in-Ok-true-2-clause-too_many c =
    let size = ap length (sym c.in-Ok.ensures.records) ∙ rw c.as_slice.ensures.value at (whole-length _ _ _ (c.in-Ok-true.ensures c.in-Ok-true.field-0-test)) in
    let more : 4194305 < length c.split.new.row_ends = search rules in
    λ h. rw size more

pub returns-in-Ok-true-3-clause-some : goal.returns-in-Ok-true-3-clause-some
returns-in-Ok-true-3-clause-some c =
    let size = ap length (sym c.in-Ok.ensures.records) ∙ rw c.as_slice.ensures.value at (whole-length _ _ _ (c.in-Ok-true.ensures c.in-Ok-true.field-0-test)) in
    let some : 0 < length c.split.new.row_ends = grind (arith, common_steps, c.if-is_empty.false) in
    rw size some

pub returns-in-Ok-true-3-clause-few : goal.returns-in-Ok-true-3-clause-few
returns-in-Ok-true-3-clause-few c =
    let size = ap length (sym c.in-Ok.ensures.records) ∙ rw c.as_slice.ensures.value at (whole-length _ _ _ (c.in-Ok-true.ensures c.in-Ok-true.field-0-test)) in
    let few : length c.split.new.row_ends ≤ 4194305 = search rules in
    rw size few

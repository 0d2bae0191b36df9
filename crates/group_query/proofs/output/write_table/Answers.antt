use Rattle.std.proofs.Common.{◌≤◌, ◌^◌, List, arith, drop, length, length-drop, subst, sym}
use Rattle.partial_agg.specs.declared.groups.Group.{Group}
use Rattle.result_text.proofs.Uses.{printable-listed}
use Rattle.result_text.specs.Printable.{ArePrintable}
use Rattle.group_query.proofs.output.write_table.Goals as goal

pub text_of-requires-clause-printable : goal.text_of-requires-clause-printable
text_of-requires-clause-printable g c =
    let ready = c.args.ready.now in
    let groups = c.requires.groups in
    let few : length (drop 1 ready.rows) ≤ 2 ^ 50 = omega (arith, length-drop 1 ready.rows, c.requires.bound.few) in
    let P : List Group → Type 0 = λ l. ArePrintable ready.bound l in
    subst P (sym groups.2) (printable-listed ready.bound (drop 1 ready.rows) groups.0 few groups.1)

use Rattle.std.proofs.Common.{arith, subst, sym}
use Rattle.std.proofs.lemmas.Result.{IfOk-weaker}
use Rattle.result_text.specs.Printable.{ArePrintable}
use Rattle.result_text.proofs.Uses.{printable-listed}
use Rattle.split_run.proofs.texts.table_text.Goals as goal

pub text_in_threads-requires-clause-printable : goal.text_in_threads-requires-clause-printable
text_in_threads-requires-clause-printable g c κs within =
    let plan = c.args.bound.now in
    let rows = c.requires.rows in
    subst (ArePrintable plan) (sym c.into_groups.ensures) (printable-listed plan rows.1 c.in_ok-whole.whole rows.2 (c.in_ok-whole.ensures plan rows.0 rows.1 rows.3 (omega (arith, rows.2))))

pub returns : goal.returns
returns g c =
    let plan = c.args.bound.now in
    IfOk-weaker c.text_in_threads-2.result _ _ (λ pieces answers header width rows bound few shared.
    answers header rows c.in_ok-whole.whole bound (c.in_ok-whole.ensures plan width rows shared (omega (arith, few))) c.into_groups.ensures) c.text_in_threads-2.ensures.answer

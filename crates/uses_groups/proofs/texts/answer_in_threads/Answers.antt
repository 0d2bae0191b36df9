use Rattle.std.proofs.Common.{subst, sym, arith, drop, length-drop}
use Rattle.result_text.specs.Printable.{ArePrintable}
use Rattle.result_text.proofs.Uses.{printable-listed}
use Rattle.uses_groups.proofs.texts.answer_in_threads.Goals as goal

pub text_in_threads-requires-clause-printable : goal.text_in_threads-requires-clause-printable
text_in_threads-requires-clause-printable g c =
    let rows = drop 1 c.args.store.now in
    λ κs within. subst (ArePrintable c.args.bound.now) (sym c.into_groups-groups.ensures)
    (printable-listed c.args.bound.now rows c.args.map (omega (arith, length-drop 1 c.args.store.now, c.requires.few)) c.requires.groups)

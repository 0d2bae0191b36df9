use Rattle.std.proofs.Common.{subst, sym, arith, drop, length-drop}
use Rattle.result_text.specs.Printable.{ArePrintable}
use Rattle.result_text.proofs.Uses.{printable-listed}
use Rattle.uses_groups.proofs.texts.answer.Goals as goal

pub text_of-requires-clause-printable : goal.text_of-requires-clause-printable
text_of-requires-clause-printable c =
    let rows = drop 1 c.args.store.now in
    subst (ArePrintable c.args.bound.now) (sym c.into_groups-groups.ensures)
    (printable-listed c.args.bound.now rows c.args.map (omega (arith, length-drop 1 c.args.store.now, c.requires.few)) c.requires.groups)

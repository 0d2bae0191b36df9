use Rattle.row_windows.proofs.Cuts.{cut-marked}
use Rattle.row_windows.proofs.cut.first_cut.Goals as goal

pub returns-in-Some : goal.returns-in-Some
returns-in-Some c =
    let text = c.without_mark-text.ensures.text in
    rw text (cut-marked c.args.bytes.now c.in-Some.at (rw text at c.in-Some.ensures))

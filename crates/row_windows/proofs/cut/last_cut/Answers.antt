use Rattle.std.proofs.Common.{refl}
use Rattle.row_windows.proofs.Cuts.{cut-marked, no-cut}
use Rattle.row_windows.proofs.cut.last_cut.Goals as goal

pub returns-in-Some-clause-cut : goal.returns-in-Some-clause-cut
returns-in-Some-clause-cut c =
    let text = c.without_mark-text.ensures.text in
    rw text (cut-marked c.args.bytes.now c.in-Some.at (rw text at c.in-Some.ensures.some))

pub returns-in-None-clause-none : goal.returns-in-None-clause-none
returns-in-None-clause-none c =
    let text = c.without_mark-text.ensures.text in
    λ is. rw text at (no-cut c.without_mark-text.result.now (c.in-None.ensures.none refl))

use Rattle.std.proofs.Common.{refl}
use Rattle.row_windows.proofs.Cuts.{cut-marked}
use Rattle.row_windows.proofs.InFront.{few-whole, one-front}
use Rattle.row_windows.proofs.header.header_end.Goals as goal

pub returns-in-Some-clause-cut : goal.returns-in-Some-clause-cut
returns-in-Some-clause-cut c =
    let text = c.without_mark-text.ensures.text in
    let first = rw text at c.in-Some.ensures.some in
    rw text (cut-marked c.args.bytes.now c.in-Some.at first.end)

pub returns-in-Some-clause-one : goal.returns-in-Some-clause-one
returns-in-Some-clause-one c =
    let text = c.without_mark-text.ensures.text in
    rw text (one-front c.args.bytes.now c.in-Some.at (rw text at c.in-Some.ensures.some))

pub returns-in-None-clause-none : goal.returns-in-None-clause-none
returns-in-None-clause-none c =
    let text = c.without_mark-text.ensures.text in
    λ _. few-whole c.args.bytes.now (rw text at (c.in-None.ensures.none refl))

use Rattle.std.proofs.Common.{take, ap, ◌∙◌}
use Rattle.csv.specs.Reading.{strip_bom}
use Rattle.csv_rows.specs.Cuts.{ends_quoted}
use Rattle.csv_rows.proofs.Follows.{scan-cut}
use Rattle.csv_rows.proofs.Marks.{text-marked}
use Rattle.csv_rows.proofs.cut.find_cut.Goals as goal

pub returns-in-Some-clause-line : goal.returns-in-Some-clause-line
returns-in-Some-clause-line g c =
    let text = c.without_mark-text.ensures.text in
    let at = c.in-Some.at in
    let marked = text-marked c.args.bytes.now at (rw text at c.in-Some.ensures.bound) in
    rw text (marked.byte ∙ (rw text at c.in-Some.ensures.line))

pub returns-in-Some-clause-cut : goal.returns-in-Some-clause-cut
returns-in-Some-clause-cut g c =
    let text = c.without_mark-text.ensures.text in
    let at = c.in-Some.at in
    let marked = text-marked c.args.bytes.now at (rw text at c.in-Some.ensures.bound) in
    let cut = scan-cut (take at (strip_bom c.args.bytes.now)) (rw text at c.in-Some.ensures.cut) in
    rw text (ap ends_quoted marked.front ∙ cut)

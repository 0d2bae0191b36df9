use Rattle.std.proofs.Common.{◌≡◌, ◌<◌, ◌+◌, ◌-◌, ◌∙◌, true, length, slice_index, arith, rules}
use Rattle.csv_rows.specs.Plain.{is_line_end}
use Rattle.csv_rows.proofs.LineEnds.{back-more}
use Rattle.csv_rows.proofs.lines.without_back.Goals as goal

pub ends-preserved : goal.ends-preserved
ends-preserved c =
    let some : 0 < c.ends.at = search rules in
    let one : (c.ends.at - 1) + 1 ≡ c.ends.at = omega (arith, some) in
    let le = c.ends.invariant.within in
    let lt : c.ends.at - 1 < length c.args.text.now = omega (arith, some, le) in
    let is : is_line_end (slice_index c.args.text.now (c.ends.at - 1)) ≡ true = search rules in
    record { within = omega (arith, le); same = rw one at (back-more c.args.text.now (c.ends.at - 1) lt is) ∙ c.ends.invariant.same }

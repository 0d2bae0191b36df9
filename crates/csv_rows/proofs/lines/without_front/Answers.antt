use Rattle.std.proofs.Common.{◌≡◌, ◌<◌, ◌∙◌, true, length, slice_index, arith, rules}
use Rattle.csv_rows.specs.Plain.{is_line_end}
use Rattle.csv_rows.proofs.LineEnds.{front-more}
use Rattle.csv_rows.proofs.lines.without_front.Goals as goal

pub ends-preserved : goal.ends-preserved
ends-preserved c =
    let lt : c.ends.at < length c.args.text.now = search rules in
    let is : is_line_end (slice_index c.args.text.now c.ends.at) ≡ true = search rules in
    record { within = omega (arith, lt); same = front-more c.args.text.now c.ends.at lt is ∙ c.ends.invariant.same }

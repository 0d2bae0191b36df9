use Rattle.std.proofs.Common.{◌≡◌, ◌∙◌, arith, slice_index, rules}
use Rattle.found_rows.proofs.Records.{past-line}
use Rattle.found_rows.proofs.found.past_lines.Goals as goal

pub lines-preserved : goal.lines-preserved
lines-preserved c =
    let is : slice_index c.args.text.now c.lines.at ≡ 10 = search rules in
    record {
      low = omega (arith, c.lines.invariant.low);
      high = omega arith;
      records = past-line c.args.text.now c.lines.at (omega arith) is ∙ c.lines.invariant.records;
    }

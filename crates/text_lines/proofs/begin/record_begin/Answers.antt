use Rattle.std.proofs.Common.{arith}
use Rattle.text_lines.proofs.Ends.{begin_within}
use Rattle.text_lines.proofs.begin.record_begin.Goals as goal

pub past_ends-requires : goal.past_ends-requires
past_ends-requires c = omega (arith, c.records_end.ensures.within)

pub returns : goal.returns
returns c =
    let end = c.records_end.result in
    let past = c.past_ends.ensures in
    record {
      end = end;
      ends = c.records_end.ensures;
      low = past.low;
      within = begin_within c.args.lines.now c.args.before end c.past_ends.result c.records_end.ensures c.requires.some past.ends past.high;
      between = past.ends;
      other = past.other;
    }

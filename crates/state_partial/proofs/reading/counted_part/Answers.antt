use Rattle.std.proofs.Common.{length, rules, subst}
use Rattle.stream_groups.specs.Taken.{Takes}
use Rattle.stream_groups.specs.declared.taken.Taken.TheVariants as amount
use Rattle.state_partial.proofs.Taken.{counted_rows, taken_all}
use Rattle.state_partial.proofs.reading.counted_part.Goals as goal

pub gathered_groups-requires : goal.gathered_groups-requires
gathered_groups-requires g c = let over = c.requires.2 in (search rules, (c.args.read.bound, (length over.header, over.rows, over.few, over.groups)))

pub returns-clause-read : goal.returns-clause-read
returns-clause-read g c = λ query from left before after over end takes. record {
  header = over.header;
  one = over.one;
  are = counted_rows query from c.args.read over c.in_ok-map.map (c.in_ok-map.ensures c.args.read.bound (length over.header) over.rows over.few over.groups);
  size = taken_all from left before after c.in-Bytes.size (subst (Takes from left before after (amount.Bytes 0)) c.in-Bytes.is takes) end;
}

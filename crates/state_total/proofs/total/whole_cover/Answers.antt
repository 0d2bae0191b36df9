use Rattle.std.proofs.Common.{List, subst}
use Rattle.state_cover.specs.Bytes.{AreWhole, IsMissing}
use Rattle.state_head.specs.declared.cover.Stretch.{Stretch}
use Rattle.state_total.proofs.Firsts.{lacks}
use Rattle.state_total.proofs.total.whole_cover.Goals as goal

pub returns-in-Some-clause-refused : goal.returns-in-Some-clause-refused
returns-in-Some-clause-refused c =
    lacks c.args.sources c.args.stretches.now.items c.in-Ok.cover.items c.in-Some.gap c.in-Ok.ensures.bytes (subst (λ (ss : List Stretch). IsMissing c.args.sources ss c.in-Some.gap) c.as_slice.ensures.value c.in-Some.ensures.some)

pub returns-in-None-clause-whole : goal.returns-in-None-clause-whole
returns-in-None-clause-whole c = record {
  join = record { order = c.join_cover.new.stretches.items; same = c.join_cover.ensures.same; join = c.in-Ok.ensures.joins };
  is_cover = c.in-Ok.ensures.cover;
  bytes = c.in-Ok.ensures.bytes;
  whole = subst (AreWhole c.args.sources) c.as_slice.ensures.value c.in-None.ensures.none;
}

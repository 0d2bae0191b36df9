use Rattle.std.proofs.Common.{◌≡◌, ◌≤◌, ◌^◌, []}
use Rattle.stream_groups.specs.Reading.{HasRead}
use Rattle.stream_groups.specs.Taken.{Takes}
use Rattle.stream_groups.proofs.filling.first_window.Given as goal

-- no record was read so far
abbrev pub invariant-loop : goal.invariant-loop
invariant-loop g l = record {
  can_next : (goal.iterator-loop g).can_next l.iterator';
  finite : (goal.iterator-loop g).is_finite l.iterator';
  reading_is : l.window.reading ≡ l.reading;
  header : l.window.header ≡ [];
  lines : l.window.lines ≡ [];
  read : HasRead l.reading (g.S.Source.left l.fn.source) (g.S.Source.left l.source) [] l.feeds l.window.rest;
  few : l.feeds ≤ 2 ^ 60;
  faults : g.S.Source.faults l.fn.source ≤ g.S.Source.faults l.source;
  taken : Takes (g.S.Source.left l.fn.source) (g.S.Source.left l.source) (g.S.Source.faults l.fn.source) (g.S.Source.faults l.source) l.fn.taken l.taken;
}

use Rattle.std.proofs.Common.{◌≡◌, ◌≤◌, true}
use Rattle.std.specs.Io.KnownBytes.{IsAtEnd}
use Rattle.row_blocks.specs.Blocks.{Table}
use Rattle.stream_groups.specs.Reading.{HasRows, IsStream}
use Rattle.stream_groups.specs.Taken.{Takes}
use Rattle.stream_groups.proofs.reading.read_groups.Given as goal

-- the rows so far are added
abbrev pub invariant-loop : goal.invariant-loop
invariant-loop g l = record {
  can_next : (goal.iterator-loop g).can_next l.iterator';
  finite : (goal.iterator-loop g).is_finite l.iterator';
  stream : IsStream l.plan l.workers l.bound l.stream;
  rows : (rows : Table) × HasRows l.plan.reading l.bound (g.S.Source.left l.fn.source) (g.S.Source.left l.source) l.stream rows;
  faults : g.S.Source.faults l.fn.source ≤ g.S.Source.faults l.source;
  taken : Takes (g.S.Source.left l.fn.source) (g.S.Source.left l.source) (g.S.Source.faults l.fn.source) (g.S.Source.faults l.source) l.fn.taken l.taken;
  end : l.stream.is_last ≡ true → IsAtEnd (g.S.Source.left l.source);
}

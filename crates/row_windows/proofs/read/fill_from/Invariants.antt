use Rattle.std.proofs.Common.{◌≡◌, ◌≤◌, ◌-◌, drop, length, take}
use Rattle.std.specs.Io.KnownBytes.{Consumes}
use Rattle.row_windows.proofs.read.fill_from.Given as goal

abbrev pub invariant-reads : goal.invariant-reads
invariant-reads g l = record {
  low : l.from ≤ l.filled;
  within : l.filled ≤ length l.buf;
  size : length l.buf ≡ length l.fn.buf;
  front : take l.from l.buf ≡ take l.from l.fn.buf;
  read : Consumes (g.S.Source.left l.fn.source) (g.S.Source.left l.source) (take (l.filled - l.from) (drop l.from l.buf));
  faults : g.S.Source.faults l.fn.source ≤ g.S.Source.faults l.source;
}

abbrev pub decreases-reads : goal.decreases-reads
decreases-reads g l = length l.buf - l.filled

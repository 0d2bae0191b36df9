use Rattle.std.proofs.Common.{◌≤◌, ◌-◌, length, take}
use Rattle.std.specs.Io.KnownBytes.{Appends}
use Rattle.par_io.proofs.write_whole.Given as goal

abbrev pub invariant-pieces : goal.invariant-pieces
invariant-pieces g l = record {
  within : l.at ≤ length l.bytes;
  taken : Appends (g.O.Sink.taken l.fn.sink) (g.O.Sink.taken l.sink) (take l.at l.bytes);
  kept : g.O.Sink.faults l.fn.sink ≤ g.O.Sink.faults l.sink;
}

abbrev pub decreases-pieces : goal.decreases-pieces
decreases-pieces g l = length l.bytes - l.at

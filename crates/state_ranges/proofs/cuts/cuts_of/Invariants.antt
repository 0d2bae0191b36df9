use Rattle.std.proofs.Common.{[], map}
use Rattle.state_range.specs.Ranges.{RiseFrom}
use Rattle.state_ranges.specs.Parts.{bytes_of}
use Rattle.state_ranges.proofs.cuts.cuts_of.Given as goal

abbrev pub invariant-loop : goal.invariant-loop
invariant-loop l = RiseFrom l.shape.columns [] (map bytes_of l.cuts.items)

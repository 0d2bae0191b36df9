-- In what a file differs from the first one.
use Rattle.std.specs.Prelude.{◌≢◌}
use Rattle.state_head.specs.Head.{Subject}
use Rattle.state_head.specs.Words.{Keys}
use Rattle.state_whole.specs.declared.alike.OtherFile.{OtherFile}
use Rattle.state_whole.specs.declared.alike.OtherFile.TheVariants.{Header, Plan, Range, Sources}

abbrev pub DiffersIn : Subject → Subject → OtherFile → Type 0
DiffersIn a b Plan = b.words ≢ a.words
DiffersIn a b Header = b.header ≢ a.header
DiffersIn a b Sources = b.sources ≢ a.sources
DiffersIn a b Range = ⊥

abbrev pub RangesDiffer : Keys → Keys → OtherFile → Type 0
RangesDiffer a b Plan = ⊥
RangesDiffer a b Header = ⊥
RangesDiffer a b Sources = ⊥
RangesDiffer a b Range = b ≢ a

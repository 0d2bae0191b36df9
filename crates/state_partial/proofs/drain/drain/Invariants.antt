use Rattle.std.proofs.Common.{◌≡◌, ◌≤◌, ◌+◌, ℕ, List, length}
use Rattle.std.specs.Io.KnownBytes.{Consumes}
use Rattle.state_partial.proofs.drain.drain.Given as goal

-- what was given since, and how many bytes that makes
abbrev pub invariant-loop : goal.invariant-loop
invariant-loop g l = ((more : List ℕ) × Consumes (g.S.Source.left l.fn.source) (g.S.Source.left l.source) more × (l.size ≡ l.fn.given + length more)) × (g.S.Source.faults l.fn.source ≤ g.S.Source.faults l.source)

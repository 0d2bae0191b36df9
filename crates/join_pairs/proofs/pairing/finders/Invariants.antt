use Rattle.std.proofs.Common.{◌≡◌, [], All, map}
use Rattle.join_pairs.specs.declared.pairing.Finder.{Finder}
use Rattle.join_pairs.proofs.pairing.finders.Given as goal

abbrev pub invariant-loop-claim : goal.invariant-loop-claim
invariant-loop-claim l = (map (λ (f : Finder). f.claim) l.finders.items ≡ l.yielded) × All (λ (f : Finder). f.finding.pairs.items ≡ []) l.finders.items

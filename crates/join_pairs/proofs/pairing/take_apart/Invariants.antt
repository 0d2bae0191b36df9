use Rattle.std.proofs.Common.{◌≡◌, map}
use Rattle.join_pairs.specs.declared.pairing.Finder.{Finder}
use Rattle.join_pairs.proofs.pairing.take_apart.Given as goal

abbrev pub invariant-loop-finder : goal.invariant-loop-finder
invariant-loop-finder l = (l.seats.items ≡ map (λ (f : Finder). f.claim) l.yielded) × (l.findings.items ≡ map (λ (f : Finder). f.finding) l.yielded)

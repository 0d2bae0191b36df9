use Rattle.std.proofs.Common.{◌≡◌, ◌≤◌, length, take}
use Rattle.std.specs.List.{flat_map}
use Rattle.join_pairs.specs.Join.{most_pairs}
use Rattle.join_pairs.specs.declared.pairing.Finding.{Finding}
use Rattle.join_pairs.proofs.pairing.collect.Given as goal

abbrev pub invariant-loop-finding : goal.invariant-loop-finding
invariant-loop-finding l = (l.all.items ≡ flat_map (λ (f : Finding). f.pairs.items) (take l.finding-index l.findings.items)) × (length l.all.items ≤ most_pairs)

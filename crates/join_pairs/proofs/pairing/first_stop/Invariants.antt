use Rattle.std.proofs.Common.{◌≡◌, All, None, take}
use Rattle.join_pairs.specs.declared.pairing.Finding.{Finding}
use Rattle.join_pairs.proofs.pairing.first_stop.Given as goal

abbrev pub invariant-loop-finding : goal.invariant-loop-finding
invariant-loop-finding l = All (λ (f : Finding). f.stopped ≡ None) (take l.finding-index l.findings.items)

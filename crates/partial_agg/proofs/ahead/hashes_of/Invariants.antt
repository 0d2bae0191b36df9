use Rattle.std.proofs.Common.{◌≡◌, length}
use Rattle.partial_agg.specs.Status.{AreHashed}
use Rattle.partial_agg.proofs.ahead.hashes_of.Given as goal

abbrev pub invariant-loop-at : goal.invariant-loop-at
invariant-loop-at l = record { long : length l.hashes ≡ 256; lasts : length l.lasts ≡ 256; each : AreHashed l.plan l.width l.rows l.first l.at l.hashes }

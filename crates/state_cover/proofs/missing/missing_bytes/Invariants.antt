use Rattle.state_cover.proofs.Gaps.{IsWholeTo}
use Rattle.state_cover.proofs.missing.missing_bytes.Given as goal

abbrev pub invariant-loop-source : goal.invariant-loop-source
invariant-loop-source l = IsWholeTo l.sources l.cover l.rest l.source

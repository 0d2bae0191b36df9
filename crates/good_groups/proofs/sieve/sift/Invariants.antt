use Rattle.std.proofs.Common.{length}
use Rattle.good_groups.specs.Sifting.{IsReady, Sifts}
use Rattle.good_groups.proofs.sieve.sift.Given as goal

-- what was sifted so far
abbrev pub invariant-lines : goal.invariant-lines
invariant-lines l = record {
  ready : IsReady l.rules l.sifter;
  sifts : Sifts l.rules l.fn.sifter l.sifter;
}

abbrev pub decreases-lines : goal.decreases-lines
decreases-lines l = length l.sifter.pending

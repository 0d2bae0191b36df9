use Rattle.std.proofs.Common.{◌≡◌, ◌≤◌, ◌+◌, false}
use Rattle.good_groups.specs.Counted.{AreRules}
use Rattle.good_groups.specs.Opened.{Opened}
use Rattle.good_groups.specs.Sifting.{GoesOn, IsReady}
use Rattle.good_groups.proofs.sieve.Sifting.give.Given as goal

-- what is left is the same
abbrev pub invariant-pieces : goal.invariant-pieces
invariant-pieces g l = record {
  ready : l.self.is_done ≡ false → IsReady l.rules l.self.sifter;
  goes : (o : Opened) → AreRules o l.rules → GoesOn o l.rules (g.S.Source.left l.fn.source) (g.S.Source.left l.source) l.fn.self l.self;
  cause : g.S.Source.faults l.fn.source + l.fn.self.lacks ≤ g.S.Source.faults l.source + l.self.lacks;
}

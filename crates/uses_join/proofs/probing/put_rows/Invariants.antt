use Rattle.std.proofs.Common.{◌≡◌}
use Rattle.lock_book.specs.Shown.{number_of}
use Rattle.dshash_parts.specs.Uses.{IsAtHome}
use Rattle.uses_join.proofs.probing.put_rows.Given as goal

abbrev pub invariant-loop-at : goal.invariant-loop-at
invariant-loop-at g l = record {
  home : IsAtHome l.r l.area l.table 1 l.pass l.apass;
  caller : number_of l.pass ≡ number_of l.fn.pass;
}

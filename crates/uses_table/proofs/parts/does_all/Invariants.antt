use Rattle.std.proofs.Common.{◌≡◌}
use Rattle.lock_book.specs.Shown.{number_of}
use Rattle.dsa_area.specs.Shown as area
use Rattle.dshash_parts.specs.Uses.{IsAtHome}
use Rattle.uses_table.proofs.parts.does_all.Given as goal

abbrev pub invariant-loop-i : goal.invariant-loop-i
invariant-loop-i g l = record {
  home : IsAtHome l.r l.area l.table 1 l.pass l.apass;
  caller : number_of l.pass ≡ number_of l.fn.pass;
  area_caller : area.number_of l.apass ≡ area.number_of l.fn.apass;
}

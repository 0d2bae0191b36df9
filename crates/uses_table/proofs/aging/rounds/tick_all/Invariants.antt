use Rattle.std.proofs.Common.{◌≡◌, ◌*◌, ◌^◌, ◌≤◌}
use Rattle.lock_book.specs.Shown.{number_of, seen_of}
use Rattle.dsa_area.specs.Shown as area
use Rattle.dshash_parts.specs.Tables.{callers_of}
use Rattle.dshash_parts.specs.Uses.{IsAtHome}
use Rattle.uses_table.proofs.Rounds.{Passing}
use Rattle.uses_table.proofs.aging.rounds.tick_all.Given as goal

abbrev pub invariant-loop-partition : goal.invariant-loop-partition
invariant-loop-partition g l = record {
  home : IsAtHome l.r l.area l.leases 1 l.pass l.apass;
  caller : number_of l.pass ≡ number_of l.fn.pass;
  area_caller : area.number_of l.apass ≡ area.number_of l.fn.apass;
  small : l.gone ≤ l.partition * 2 ^ 64;
  passed : callers_of l.leases ≡ 1 → Passing (seen_of l.fn.pass) (seen_of l.pass) l.partition l.gone;
}

use Rattle.std.proofs.Common.{◌≡◌, ◌*◌, ◌^◌, ◌≤◌}
use Rattle.lock_book.specs.Shown.{number_of, seen_of, mine_of}
use Rattle.dshash_parts.specs.Tables.{Belongs}
use Rattle.dshash_scan.proofs.Tallies.{Tallied}
use Rattle.dshash_scan.proofs.counting.count_all.Given as goal

abbrev pub invariant-loop-number : goal.invariant-loop-number
invariant-loop-number g l = record {
  own : Belongs l.table l.pass;
  caller : number_of l.pass ≡ number_of l.fn.pass;
  small : l.total ≤ l.number * 2 ^ 64;
  tallied : Tallied g.O.CellObject.stepped (number_of l.fn.pass) (seen_of l.fn.pass) (mine_of l.fn.pass) (seen_of l.pass) (mine_of l.pass) l.number l.total;
}

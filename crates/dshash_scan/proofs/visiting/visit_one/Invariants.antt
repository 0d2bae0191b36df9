use Rattle.std.proofs.Common.{◌≡◌, length}
use Rattle.lock_book.specs.Shown.{number_of, seen_of, mine_of}
use Rattle.dsa_area.specs.Shown as area
use Rattle.dsa_area.specs.Sizes.{chunk_size}
use Rattle.dshash_parts.specs.Tables.{AreKeysOf, Belongs, item_of}
use Rattle.dshash_scan.proofs.Visits.{Scanning}
use Rattle.dshash_scan.proofs.visiting.visit_one.Given as goal

abbrev pub invariant-visits : goal.invariant-visits
invariant-visits g l = record {
  own : Belongs l.table l.pass;
  caller : number_of l.pass ≡ number_of l.fn.pass;
  area_own : area.Belongs l.area l.apass;
  area_caller : area.number_of l.apass ≡ area.number_of l.fn.apass;
  partition : l.scan.partition ≡ l.partition;
  keys : AreKeysOf l.table l.partition l.scan.left;
  scanning : Scanning g.O.CellObject.stepped l.area (number_of l.fn.pass) (chunk_size (item_of l.table)) l.partition l.call l.count (seen_of l.fn.pass) (mine_of l.fn.pass) l.fn.apass (seen_of l.pass) (mine_of l.pass) l.apass l.scan.left;
}

abbrev pub decreases-visits : goal.decreases-visits
decreases-visits g l = length l.scan.left

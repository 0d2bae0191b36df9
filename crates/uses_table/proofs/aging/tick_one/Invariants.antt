use Rattle.std.proofs.Common.{◌≡◌, ◌+◌, ◌≤◌, length}
use Rattle.lock_book.specs.Shown.{number_of, seen_of, mine_of}
use Rattle.dsa_area.specs.Shown as area
use Rattle.dsa_area.specs.Sizes.{chunk_size}
use Rattle.dshash_parts.specs.Tables.{AreKeysOf, item_of}
use Rattle.dshash_parts.specs.Uses.{IsAtHome}
use Rattle.dshash_scan.proofs.Visits.{Scanning}
use Rattle.uses_table.specs.Leases.{stepped}
use Rattle.uses_table.specs.declared.lease.LeaseCall.TheVariants.{Tick}
use Rattle.uses_table.proofs.Ticks.{freed_in}
use Rattle.uses_table.proofs.aging.tick_one.Given as goal

abbrev pub invariant-loop-visit : goal.invariant-loop-visit
invariant-loop-visit g l = record {
  home : IsAtHome l.r l.area l.leases 1 l.pass l.apass;
  caller : number_of l.pass ≡ number_of l.fn.pass;
  area_caller : area.number_of l.apass ≡ area.number_of l.fn.apass;
  partition : l.scan.partition ≡ l.partition;
  keys : AreKeysOf l.leases l.partition l.scan.left;
  scanning : Scanning stepped l.area (number_of l.fn.pass) (chunk_size (item_of l.leases)) l.partition Tick l.visited (seen_of l.fn.pass) (mine_of l.fn.pass) l.fn.apass (seen_of l.pass) (mine_of l.pass) l.apass l.scan.left;
  freed : l.gone + freed_in (mine_of l.fn.pass l.partition) ≡ freed_in (mine_of l.pass l.partition);
  few : l.gone + length l.scan.left ≤ l.visited;
}

abbrev pub decreases-loop-visit : goal.decreases-loop-visit
decreases-loop-visit g l = length l.scan.left

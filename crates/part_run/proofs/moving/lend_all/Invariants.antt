use Rattle.std.proofs.Common.{All, take}
use Rattle.gather_law.specs.KeyParts.{AreListings}
use Rattle.part_run.specs.Moving.{IsLent, lists_of}
use Rattle.part_run.proofs.moving.lend_all.Given as goal

-- the lists of the maps so far
abbrev pub invariant-loop-map : goal.invariant-loop-map
invariant-loop-map l = record {
  listings : AreListings (take l.map-index l.maps) (lists_of l.lists.items);
  lent : All IsLent l.lists.items;
}

use Rattle.std.proofs.Common.{◌≡◌, length}
use Rattle.dshash_core.specs.Listing.{pairs_of}
use Rattle.frozen_table.specs.Places.{AreLinked, keys_of}
use Rattle.frozen_table.proofs.index.link_all.Given as goal

abbrev pub invariant-loop-place : goal.invariant-loop-place
invariant-loop-place g l = record {
  same : length l.heads.items ≡ length l.fn.heads.items;
  linked : AreLinked (keys_of (pairs_of l.entries.items)) l.heads.items l.nexts.items l.place;
}

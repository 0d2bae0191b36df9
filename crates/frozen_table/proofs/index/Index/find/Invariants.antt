use Rattle.std.proofs.Common.{length}
use Rattle.dshash_core.specs.Listing.{pairs_of}
use Rattle.frozen_table.specs.Places.{keys_of}
use Rattle.frozen_table.proofs.Links.{IsWalked}
use Rattle.frozen_table.proofs.index.Index.find.Given as goal

abbrev pub invariant-loop-at : goal.invariant-loop-at
invariant-loop-at g l = IsWalked (keys_of (pairs_of l.self-inside.entries.items)) (length l.self-inside.heads.items) l.slot l.key l.at

abbrev pub decreases-loop-at : goal.decreases-loop-at
decreases-loop-at g l = l.at

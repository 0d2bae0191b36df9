use Rattle.std.proofs.Common.{◌≡◌, ◌+◌, ◌-◌, List, [], ◌++◌, map, length}
use Rattle.dshash_core.specs.Chains.{Item}
use Rattle.dshash_core.specs.Hung.{chain_of, first_place}
use Rattle.dshash_core.specs.Cells.{entry_of}
use Rattle.dshash_core.specs.Listing.{pairs_of}
use Rattle.dshash_core.proofs.entries.list_chain.Given as goal

-- what stands before the item is listed
abbrev pub invariant-loop-item : goal.invariant-loop-item
invariant-loop-item g l = (before : List Item) × (after : List Item)
    × (l.buckets ≡ l.fn.buckets)
    × (chain_of l.fn.buckets l.bucket ≡ before ++ after)
    × (l.item ≡ first_place after)
    × (l.item ≡ 0 → after ≡ [])
    × (pairs_of l.entries.items ≡ pairs_of l.fn.entries.items ++ map (entry_of g.O.CellObject.decoded) before)
    × (length l.buffer ≡ length l.fn.buffer)

abbrev pub decreases-loop-item : goal.decreases-loop-item
decreases-loop-item g l = length (chain_of l.fn.buckets l.bucket) + length l.fn.entries.items - length l.entries.items

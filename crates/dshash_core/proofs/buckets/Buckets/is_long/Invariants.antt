use Rattle.std.proofs.Common.{◌≡◌, List, [], ◌++◌, length}
use Rattle.dshash_core.specs.Chains.{Item}
use Rattle.dshash_core.specs.Hung.{chain_of, first_place}
use Rattle.dshash_core.proofs.buckets.Buckets.is_long.Given as goal

-- the items before this one are as many as were passed
abbrev pub invariant-loop-passed : goal.invariant-loop-passed
invariant-loop-passed l = (before : List Item) × (after : List Item)
    × (l.self ≡ l.fn.self)
    × (chain_of l.fn.self l.bucket ≡ before ++ after)
    × (l.item ≡ first_place after)
    × (l.item ≡ 0 → after ≡ [])
    × (length before ≡ l._passed)

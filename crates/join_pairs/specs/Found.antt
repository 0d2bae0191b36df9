-- The pairs that a participant of the second round found.
use Rattle.std.specs.Prelude.{◌<◌, ℕ, IsTrue, List, Option, Some, None, filter, length, map}
use Rattle.std.specs.List.{flat_map}
use Rattle.std.specs.List.Sorted.{IsPermutation}
use Rattle.scan_claim.specs.Drawing.{is_spent}
use Rattle.scan_claim.specs.Shown.{blocks_of}
use Rattle.scan_claim.specs.declared.claims.Claims.{Claims}
use Rattle.row_blocks.specs.Blocks.{Table, numbers_of, numbers_of_blocks}
use Rattle.join_pairs.specs.Join.{is_pair, most_pairs, pairs_of}
use Rattle.join_pairs.specs.declared.pairing.NoPairs.{NoPairs}
use Rattle.join_pairs.specs.declared.pairing.NoPairs.TheVariants.{TooMany, Memory}
use Rattle.join_pairs.specs.declared.pairs.Pair.{Pair}

module _ (left right : Table) (left_column right_column : ℕ) where
  -- the pairs of a right row
  abbrev pub found_of : ℕ → List Pair
  found_of r = map (λ l. record { left = l; right = r }) (filter (λ l. is_pair left right left_column right_column l r) (numbers_of left))

  -- the pairs of some right rows
  abbrev pub found_in : List ℕ → List Pair
  found_in rows = flat_map found_of rows

  -- a participant found the pairs of the rows of all blocks that it drew
  pub record HasFound (c : Claims) (draws : List ℕ) (pairs : List Pair) : Type 0 where
    pub same : IsPermutation (found_in (numbers_of_blocks right draws)) pairs
    pub spent : IsTrue (is_spent (blocks_of c) draws)

  -- why a participant stopped early: the rows of its blocks have too many pairs; a lack of memory says nothing
  abbrev pub Stops : List ℕ → NoPairs → Type 0
  Stops draws TooMany = most_pairs < length (found_in (numbers_of_blocks right draws))
  Stops draws Memory = Unit {0}

  -- what came of a participant's blocks
  abbrev pub Found : Claims → List ℕ → List Pair → Option NoPairs → Type 0
  Found c draws pairs None = HasFound c draws pairs
  Found c draws pairs (Some why) = Stops draws why

  -- why there is no list of pairs
  abbrev pub HasNone : NoPairs → Type 0
  HasNone TooMany = most_pairs < length (pairs_of left right left_column right_column)
  HasNone Memory = Unit {0}

-- The law: the pairs of all right rows, put in order, are the pairs of the two tables.
use Rattle.std.proofs.Common.{◌≡◌, ℕ, List, length, sym}
use Rattle.std.specs.List.{flat_map}
use Rattle.std.specs.List.Sorted.{IsPermutation}
use Rattle.std.proofs.lemmas.List.Sorted.{IsPermutation-sym, IsPermutation-trans, length_permutation}
use Rattle.scan_claim.specs.Drawing.{below}
use Rattle.row_blocks.specs.Blocks.{Table, numbers_of}
use Rattle.row_blocks.proofs.Permute.{flat_map-permutation}
use Rattle.join_pairs.specs.Found.{found_of}
use Rattle.join_pairs.specs.Join.{is_pair, pairs_of}
use Rattle.join_pairs.specs.Law.{PairsAreJoin, pair_cmp}
use Rattle.join_pairs.specs.declared.pairs.Pair.{Pair}
use Rattle.join_pairs.proofs.Exchange.{exchange}
use Rattle.join_pairs.proofs.Ordered.{one_sorted}
use Rattle.join_pairs.proofs.Rising.{below_up, joined_rises, pair, pairs_apart, pairs_total, up_drop}

module _ (left right : Table) (left_column right_column : ℕ) where
  abbrev found : ℕ → List Pair
  found = found_of left right left_column right_column

  abbrev whole : List Pair
  whole = pairs_of left right left_column right_column

  -- the pairs of all right rows, in whatever order these came, are those of the tables
  pub all_found : (rows : List ℕ) → IsPermutation rows (numbers_of right) → IsPermutation (flat_map found rows) whole
  all_found rows p =
      IsPermutation-trans (flat_map found rows) (flat_map found (numbers_of right)) whole (flat_map-permutation found rows (numbers_of right) p)
      (exchange (is_pair left right left_column right_column) pair (numbers_of left) (numbers_of right))

  pub same_count : (rows : List ℕ) → IsPermutation rows (numbers_of right) → length (flat_map found rows) ≡ length whole
  same_count rows p = sym (length_permutation (flat_map found rows) whole (all_found rows p))

pub joins : PairsAreJoin
joins left right left_column right_column rows pairs p found sorted =
    let whole = pairs_of left right left_column right_column in
    let listed = flat_map (found_of left right left_column right_column) rows in
    sym (one_sorted pair_cmp pairs_total pairs_apart whole pairs (IsPermutation-trans whole listed pairs (IsPermutation-sym listed whole (all_found left right left_column right_column rows p)) found)
    (joined_rises (is_pair left right left_column right_column) (numbers_of right) (numbers_of left) (up_drop (below (length left)) (below_up (length left))) (up_drop (below (length right)) (below_up (length right)))) sorted)

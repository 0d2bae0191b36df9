use Rattle.std.proofs.Common.{◌≡◌, ◌≤◌, ℕ, length}
use Rattle.std.specs.List.Sorted.{IsPermutation}
use Rattle.scan_claim.specs.Shown.{Belongs, draws_of, number_of}
use Rattle.row_blocks.specs.Blocks.{Table, numbers_of_blocks}
use Rattle.join_pairs.specs.Join.{most_pairs}
use Rattle.join_pairs.specs.Found.{found_in}
use Rattle.join_pairs.specs.Gathered.{ChainsAll}
use Rattle.join_pairs.proofs.pairing.find_blocks.Given as goal

abbrev pub invariant-loop : goal.invariant-loop
invariant-loop g l = record {
  can_next : (goal.iterator-loop g).can_next l.iterator';
  finite : (goal.iterator-loop g).is_finite l.iterator';
  seat : Belongs l.claims l.claim;
  number : number_of l.claim ≡ number_of l.initial.claim;
  few : length l.pairs.items ≤ most_pairs;
  found : (left : Table) (c : ℕ) → ChainsAll left c (g.L.Lasts.last_of l.table) l.chains → IsPermutation (found_in left l.rows c l.column (numbers_of_blocks l.rows (draws_of l.claim))) l.pairs.items;
}

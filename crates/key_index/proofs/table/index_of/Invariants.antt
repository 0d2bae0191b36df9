use Rattle.std.proofs.Common.{◌≡◌, ◌<◌, ◌⊎◌, ℕ, List, Some}
use Rattle.std.specs.List.{slice_get}
use Rattle.key_index.specs.Index.{IsLate, IsReached, hash}
use Rattle.key_index.proofs.table.index_of.Given as goal

abbrev pub invariant-loop-place : goal.invariant-loop-place
invariant-loop-place l = record {
  entered : (p : ℕ) (key : List ℕ) → p < l.place → slice_get l.keys p ≡ Some key → IsReached l.slots.items (hash key) p ⊎ IsLate l.late l.keys key;
  kept : (key : List ℕ) → IsLate l.fn.late l.keys key → IsLate l.late l.keys key;
}

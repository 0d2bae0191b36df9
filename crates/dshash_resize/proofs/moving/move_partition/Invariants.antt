use Rattle.std.proofs.Common.{◌≡◌, ◌<◌, ℕ, []}
use Rattle.dshash_core.specs.Hung.{chain_of}
use Rattle.dshash_resize.specs.Moving.{IsMovedOn}
use Rattle.dshash_resize.proofs.moving.move_partition.Given as goal

abbrev pub invariant-loop-bucket : goal.invariant-loop-bucket
invariant-loop-bucket g l = record {
  moved : IsMovedOn g.O.CellObject.decoded g.O.CellObject.VALUE_WORDS l.initial.p l.initial.from l.p l.from;
  empty : (i : ℕ) → i < l.bucket → chain_of l.from i ≡ [];
}

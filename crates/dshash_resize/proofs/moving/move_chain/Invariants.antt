use Rattle.std.proofs.Common.{◌≡◌, ℕ, [], length}
use Rattle.dshash_core.specs.Hung.{chain_of}
use Rattle.dshash_resize.specs.Moving.{IsMovedOn}
use Rattle.dshash_resize.proofs.moving.move_chain.Given as goal

abbrev pub invariant-loop-item : goal.invariant-loop-item
invariant-loop-item g l = record {
  moved : IsMovedOn g.O.CellObject.decoded g.O.CellObject.VALUE_WORDS l.fn.p l.fn.from l.p l.from;
  others : (i : ℕ) → chain_of l.fn.from i ≡ [] → chain_of l.from i ≡ [];
}

abbrev pub decreases-loop-item : goal.decreases-loop-item
decreases-loop-item g l = length (chain_of l.from l.bucket)

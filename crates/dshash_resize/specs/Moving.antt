-- A partition in the midst of a move: its former chains and the partition as it is now.
use Rattle.std.specs.Prelude.{◌≡◌, ℕ, ◌+◌, List, length, Option, Some, None, IsSome}
use Rattle.std.specs.FinMap as fin
use Rattle.dshash_core.specs.Hung.{Hung}
use Rattle.dshash_core.specs.Cells.{KeyMap, PartitionView, IsRoomy, AreCells, cells_of}

-- the first answer, or else the second
abbrev pub either_of : {S : Type 0} → Option S → Option S → Option S
either_of (Some s) o = Some s
either_of None o = o

-- each key of `all` is in p or still in the chains of `from`, which are those of a partition of size `former`, and in
-- no more than one of them
pub record IsMoving {S : Type 0} (decoded : List ℕ → S) (value_words former total : ℕ) (all : KeyMap S) (p : PartitionView S) (from : Hung) : Type 0 where
  pub left : ℕ
  pub chains : AreCells former left value_words from
  pub counted : fin.len p.cells + left ≡ total
  pub roomy : IsRoomy p.size total
  pub whole : (q : List ℕ) → fin.get all q ≡ either_of (fin.get p.cells q) (fin.get (cells_of decoded from.chains) q)
  pub apart : (q : List ℕ) → IsSome (fin.get p.cells q) → fin.get (cells_of decoded from.chains) q ≡ None
  pub seed : from.layout.seed ≡ p.seed
  pub key_words : from.layout.key_words ≡ p.key_words
  pub item_bytes : from.layout.item_bytes ≡ p.item_bytes

-- from q and `before` the move has gone on to p and `after`: only the map and the chains have changed
pub record IsMovedOn {S : Type 0} (decoded : List ℕ → S) (value_words : ℕ) (q : PartitionView S) (before : Hung) (p : PartitionView S) (after : Hung) : Type 0 where
  pub same : p ≡ record q { cells = p.cells }
  pub chains_same : after ≡ record before { chains = after.chains }
  pub buckets_same : length after.chains ≡ length before.chains
  pub moving : (former total : ℕ) (all : KeyMap S) → IsMoving decoded value_words former total all q before → IsMoving decoded value_words former total all p after

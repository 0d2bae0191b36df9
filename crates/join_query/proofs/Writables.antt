-- One pair of those that can be written.
use Rattle.std.proofs.Common.{◌<◌, ℕ, List, get_or, length}
use Rattle.std.proofs.lemmas.List.Elements.{All-get_or}
use Rattle.row_blocks.specs.Blocks.{Table}
use Rattle.join_pairs.specs.declared.pairs.Pair.{Pair}
use Rattle.join_query.specs.Writable.{AreWritable, IsWritable}

abbrev pub none : Pair
none = record { left = 0; right = 0 }

pub writable_at : (left right : Table) (pairs : List Pair) (at : ℕ) → AreWritable left right pairs → at < length pairs → IsWritable left right (get_or pairs at none)
writable_at left right pairs at all lt = All-get_or (IsWritable left right) pairs at none lt all

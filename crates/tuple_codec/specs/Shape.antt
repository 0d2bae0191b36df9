-- Where the parts of a tuple lie.
use Rattle.std.specs.Prelude.{◌≡◌, ◌≤◌, ◌+◌, ◌*◌, ℕ, List, length, slice_index}
use Rattle.tuple_codec.specs.Tuple.{key_length}
use Rattle.tuple_codec.specs.declared.read.Shape.{Shape}
use Rattle.par_model.specs.Refuse.{longest_key}

-- the bytes have a key of this length and this many slots, and end with the last one
pub record HasShape (bytes : List ℕ) (shape : Shape) : Type 0 where
  pub key : shape.key ≡ key_length bytes
  pub key_fits : shape.key ≤ longest_key
  pub slots : shape.slots ≡ slice_index bytes (12 + shape.key)
  pub few : shape.slots ≤ 8
  pub ends : length bytes ≡ 13 + shape.key + 40 * shape.slots

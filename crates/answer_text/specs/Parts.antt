-- The text of records in parts.
use Rattle.std.specs.Prelude.{◌≡◌, ◌+◌, ◌/◌, ◌%◌, ◌<◌, ℕ, IfOk, List, Result, get_or, length, map, min}
use Rattle.std.specs.Fork.{slice_chunk}
use Rattle.std.specs.Global.{Vec}
use Rattle.std.specs.declared.alloc.AllocError.{AllocError}
use Rattle.par_model.specs.Table.{table_text}

-- items were cut into ranges of a size, and each part has the text of the records of its range, if there was memory for it
pub record AreParts {X : Type 0} (record_of : X → List (List ℕ)) (items : List X) (size : ℕ) (parts : List (Result (Vec ℕ) AllocError)) : Type 0 where
  pub count : length parts ≡ length items / size + min 1 (length items % size)
  pub each : (n : ℕ) (d : Result (Vec ℕ) AllocError) → n < length parts → IfOk (get_or parts n d) (λ text. text.items ≡ table_text (map record_of (slice_chunk items size n)))

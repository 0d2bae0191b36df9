-- What the messages of a worker's tuple queue say.
use Rattle.std.specs.Prelude.{◌≡◌, ℕ, List}
use Rattle.std.specs.List.{AllZip}
use Rattle.par_model.specs.declared.state.AggState.{AggState}
use Rattle.tuple_codec.specs.Tuple.{IsTuple, tuple_bytes}
use Rattle.gather_law.specs.Tuples.{Group}

-- the group that a message is, if it is a tuple
pub record ReadsAs (bytes : List ℕ) (group : Group) : Type 0 where
  pub each : (key : List ℕ) (state : AggState) (slots : ℕ) → IsTuple key state slots → bytes ≡ tuple_bytes key state slots → group ≡ (key, state)

-- the groups that messages are, in order
abbrev pub ReadAs : List (List ℕ) → List Group → Type 0
ReadAs messages groups = AllZip ReadsAs messages groups

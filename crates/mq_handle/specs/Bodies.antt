-- The bytes of a message that is sent, wherever they lie.
use Rattle.std.specs.Prelude.{ℕ, List}
use Rattle.mq_handle.specs.declared.body.Slices.{Slices}
use Rattle.mq_handle.specs.declared.body.Slices.TheVariants.{One, Many}
use Rattle.mq_handle.specs.Parts.{joined}

-- those of the one slice, or of all, one after another
abbrev pub bytes_in : Slices → List ℕ
bytes_in (One bytes) = bytes.now
bytes_in (Many parts) = joined parts.now

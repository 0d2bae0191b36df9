-- A source that was read to its end.
use Rattle.std.specs.Prelude.{◌≡◌, ◌+◌, ℕ, List, Option, length}
use Rattle.std.specs.Io.KnownBytes.{Consumes, IsAtEnd}

-- after this many bytes it gave others, to its end: together they are this many
pub record IsDrained (old new : Option (List ℕ)) (given size : ℕ) : Type 0 where
  pub more : List ℕ
  pub gives : Consumes old new more
  pub end : IsAtEnd new
  pub counted : size ≡ given + length more

-- Bytes on their way to a sink, of which some wait in a buffer.
use Rattle.std.specs.Prelude.{◌≡◌, ◌≤◌, ◌⊎◌, ◌++◌, ℕ, Bool, true, false, List, Option, drop, take}
use Rattle.std.specs.Io.KnownBytes.{Appends}
use Rattle.par_io.specs.Faults.{Rose}

-- the bytes that wait, and whether a write has failed
pub record Waiting : Type 0 where
  pub bytes : List ℕ
  pub is_broken : Bool

-- a text was put after what waited: this many of these bytes went on to the sink, and the others wait, unless a write
-- failed; after that nothing goes on
pub record Puts {O : Type 0} (taken : O → Option (List ℕ)) (faults : O → ℕ) (old new : O) (before after : Waiting) (text : List ℕ) : Type 0 where
  pub count : ℕ
  pub gone : Appends (taken old) (taken new) (take count (before.bytes ++ text))
  pub left : after.is_broken ≡ false → after.bytes ≡ drop count (before.bytes ++ text)
  pub kept : faults old ≤ faults new
  pub stays : before.is_broken ≡ true → (after.is_broken ≡ true) × (count ≡ 0)
  pub rose : after.is_broken ≡ true → (before.is_broken ≡ true) ⊎ Rose (faults old) (faults new)

-- Why stretches are no cover.
use Rattle.std.specs.Prelude.{◌≡◌, ◌≢◌, ◌<◌, ◌≤◌, ◌+◌, ◌^◌, ℕ, List, true, length}
use Rattle.state_cover.specs.Bytes.{DifferInSize, had, has_byte, rows_in, rows_of}
use Rattle.state_cover.specs.declared.joining.CoverFault.{CoverFault}
use Rattle.state_cover.specs.declared.joining.CoverFault.TheVariants.{Many, Memory, Size, Twice}
use Rattle.state_cover.specs.declared.joining.CoverFault.TheVariants as fault
use Rattle.state_head.specs.declared.cover.Stretch.{Stretch}

-- why some stretches, in any order, are no cover: a byte is had twice, the sizes of a source differ, it has too many rows, they are
-- too many
abbrev pub IsNoCover : List Stretch → CoverFault → Type 0
IsNoCover stretches Memory = Unit {0}
IsNoCover stretches (Twice source at) = 2 ≤ had source at stretches
IsNoCover stretches (Size source) = DifferInSize source stretches
IsNoCover stretches (fault.Rows source) = 2 ^ 50 < rows_in source stretches
IsNoCover stretches Many = 2 ^ 32 ≤ length stretches

-- both have a byte of this source
pub record Share (source at : ℕ) (a b : Stretch) : Type 0 where
  pub one : has_byte source at a ≡ true
  pub other : has_byte source at b ≡ true

-- both are of this source
pub record AreOf (source : ℕ) (a b : Stretch) : Type 0 where
  pub one : a.place.source ≡ source
  pub other : b.place.source ≡ source

-- why a stretch and the one after it cannot be in one cover
abbrev pub DoNotFit : Stretch → Stretch → CoverFault → Type 0
DoNotFit a b Memory = ⊥
DoNotFit a b (Twice source at) = Share source at a b
DoNotFit a b (Size source) = AreOf source a b × (a.place.size ≢ b.place.size)
DoNotFit a b (fault.Rows source) = AreOf source a b × (2 ^ 50 < rows_of a.rows + rows_of b.rows)
DoNotFit a b Many = ⊥

-- why a stretch more does not go to the end of a cover
abbrev pub IsFull : List Stretch → CoverFault → Type 0
IsFull cover Memory = Unit {0}
IsFull cover (Twice source at) = ⊥
IsFull cover (Size source) = ⊥
IsFull cover (fault.Rows source) = ⊥
IsFull cover Many = 2 ^ 32 ≤ length cover + 1

-- why a stretch more is not taken in
abbrev pub IsNoPair : List Stretch → Stretch → Stretch → CoverFault → Type 0
IsNoPair cover a b Memory = Unit {0}
IsNoPair cover a b (Twice source at) = Share source at a b
IsNoPair cover a b (Size source) = AreOf source a b × (a.place.size ≢ b.place.size)
IsNoPair cover a b (fault.Rows source) = AreOf source a b × (2 ^ 50 < rows_of a.rows + rows_of b.rows)
IsNoPair cover a b Many = 2 ^ 32 ≤ length cover + 1

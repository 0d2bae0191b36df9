-- The cover of a file of states: which bytes of which source it is of.
use Rattle.std.specs.Prelude.{◌≡◌, ◌<◌, ◌≤◌, ◌^◌, ◌++◌, ◌⊎◌, ℕ, List, [], ◌∷◌, IfSome, None, Option, Some, flat_map, length}
use Rattle.state_file.specs.Number.{number_bytes}
use Rattle.state_head.specs.declared.cover.Place.{Place}
use Rattle.state_head.specs.declared.cover.RefusedRow.{RefusedRow}
use Rattle.state_head.specs.declared.cover.Rows.{Rows}
use Rattle.state_head.specs.declared.cover.Rows.TheVariants.{Counted, Refused}
use Rattle.state_head.specs.declared.cover.Stretch.{Stretch}

-- a place of a source, and how long the source is
unfoldable pub place_bytes : Place → List ℕ
place_bytes p = number_bytes p.source ++ (number_bytes p.from ++ (number_bytes p.to ++ number_bytes p.size))

-- the refused row, counted from 1, its cause and the aggregate; or 0, and how many rows there are
unfoldable pub rows_bytes : Rows → List ℕ
rows_bytes (Counted rows) = number_bytes 0 ++ number_bytes rows
rows_bytes (Refused why) = number_bytes why.row ++ (number_bytes why.cause ++ number_bytes why.item)

unfoldable pub stretch_bytes : Stretch → List ℕ
stretch_bytes s = place_bytes s.place ++ rows_bytes s.rows

-- how many stretches, and the stretches
unfoldable pub cover_bytes : List Stretch → List ℕ
cover_bytes cover = number_bytes (length cover) ++ flat_map stretch_bytes cover

-- a place of numbers of 32 and 64 bits
pub record FitsPlace (p : Place) : Type 0 where
  pub source : p.source < 2 ^ 32
  pub from : p.from < 2 ^ 64
  pub to : p.to < 2 ^ 64
  pub size : p.size < 2 ^ 64

-- a place of one of this many sources, within it; it has no bytes only if the source has none
pub record IsPlace (sources : ℕ) (p : Place) : Type 0 where
  pub source : p.source < sources
  pub order : p.from ≤ p.to
  pub within : p.to ≤ p.size
  pub fits : p.size < 2 ^ 64
  pub filled : (p.from < p.to) ⊎ (p.size ≡ 0)

-- a refused row has a number from 1 on, one of four causes, and one of eight aggregates
pub record IsRefusedRow (why : RefusedRow) : Type 0 where
  pub first : 1 ≤ why.row
  pub last : why.row ≤ 2 ^ 50
  pub some : 1 ≤ why.cause
  pub few : why.cause ≤ 4
  pub item : why.item < 8

-- this many rows, or a refused one
abbrev pub AreRows : Rows → Type 0
AreRows (Counted rows) = rows ≤ 2 ^ 50
AreRows (Refused why) = IsRefusedRow why

pub record IsStretch (sources : ℕ) (s : Stretch) : Type 0 where
  pub is_place : IsPlace sources s.place
  pub are_rows : AreRows s.rows

-- a place after another, which it does not touch
abbrev pub IsAfter : Place → Place → Type 0
IsAfter a b = (a.source < b.source) ⊎ ((a.source ≡ b.source) × (a.to < b.from) × (a.size ≡ b.size))

-- a stretch that can come after this place, if there is one before it
pub record IsNext (sources : ℕ) (before : Option Place) (s : Stretch) : Type 0 where
  pub is_stretch : IsStretch sources s
  pub is_after : IfSome before (λ place. IsAfter place s.place)

-- stretches each of which comes after the one before
abbrev pub AreStretches : ℕ → Option Place → List Stretch → Type 0
AreStretches sources before [] = Unit {0}
AreStretches sources before (s ∷ more) = IsNext sources before s × AreStretches sources (Some s.place) more

-- the cover of a file of some of this many sources
pub record IsCover (sources : ℕ) (cover : List Stretch) : Type 0 where
  pub stretches : AreStretches sources None cover
  pub few : length cover < 2 ^ 32

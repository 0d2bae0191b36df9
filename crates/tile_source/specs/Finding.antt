-- How the beginning of a tile is found.
use Rattle.std.specs.Prelude.{◌≡◌, ◌<◌, ◌+◌, ◌-◌, ◌^◌, ◌⊎◌, ℕ, List, Option, [], false, length, max, min}
use Rattle.std.specs.Io.KnownBytes.{Consumes, IsAtEnd, prepend_known}
use Rattle.csv_rows.specs.declared.place.Place.TheVariants as place
use Rattle.row_windows.specs.Seams.{BeginsLine}
use Rattle.tile_source.specs.Begins.{Begins}
use Rattle.tile_source.specs.Left.{tile_left}
use Rattle.tile_source.specs.declared.open.Begin.{Begin}
use Rattle.tile_source.specs.declared.open.Span.{Span}
use Rattle.tile_source.specs.declared.tile.Tile.{Tile}

-- bytes of which some were read already were passed over, up to the end of a line or to the end of the source
pub record HasBegun (ahead : List ℕ) (old new : Option (List ℕ)) (from at : ℕ) (rest : List ℕ) : Type 0 where
  pub passed : List ℕ
  pub reads : Consumes (prepend_known ahead old) (prepend_known rest new) passed
  pub at_is : at ≡ min (from + length passed) (2 ^ 64 - 1)
  pub begins : BeginsLine rest ⊎ ((rest ≡ []) × IsAtEnd new)

-- the source ended before its size: all bytes of it were passed over
pub record HasEnded (ahead : List ℕ) (old new : Option (List ℕ)) (from size : ℕ) : Type 0 where
  pub passed : List ℕ
  pub reads : Consumes (prepend_known ahead old) new passed
  pub end : IsAtEnd new
  pub early : from + length passed < size

-- a tile from this place on, before anything was given of it
pub record OpensAt (span : Span) (header ahead : List ℕ) (at : ℕ) (b : Begin) (t : Tile) : Type 0 where
  pub header_is : t.header ≡ header
  pub ahead_is : t.ahead ≡ ahead
  pub cut_is : t.cut ≡ record { at = at; place = place.Opens; goal = max span.to at; size = span.size; is_done = false }
  pub lacks_is : t.lacks ≡ 0
  pub long : b.header ≡ length header
  pub at_is : b.at ≡ at

-- a tile of what a source brings
abbrev pub OpensTo : Span → List ℕ → Begin → Tile → Option (List ℕ) → Type 0
OpensTo span bytes b t left = Begins span bytes b (tile_left t left)

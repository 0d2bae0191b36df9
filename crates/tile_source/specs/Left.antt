-- What is left of a tile.
use Rattle.std.specs.Prelude.{◌≡◌, ◌+◌, ◌-◌, ℕ, zero, suc, List, Option, None, Some, [], ◌∷◌, ◌++◌, length, if◌then◌else◌}
use Rattle.std.specs.Io.KnownBytes.{prepend_known}
use Rattle.std.specs.Option.{option_map}
use Rattle.tile_source.specs.Scan.{cut_text}
use Rattle.tile_source.specs.declared.cut.Cut.{Cut}
use Rattle.tile_source.specs.declared.tile.Tile.{Tile}
use Rattle.tile_source.specs.declared.source.TileSource.{TileSource}

-- this many zeros
unfoldable pub zeros : ℕ → List ℕ
zeros zero = []
zeros (suc n) = 0 ∷ zeros n

-- the bytes that a source of this size lacks if it ends after these, which lie at this place: zeros stand for them, none is ever given
abbrev pub lack : ℕ → ℕ → List ℕ → List ℕ
lack size at bytes = zeros (size - (at + length bytes))

-- what a scan passes over of these bytes, before it ends at a seam
abbrev pub left_of : Cut → List ℕ → List ℕ
left_of c bytes = if c.is_done then [] else cut_text c.place (c.goal - c.at) (bytes ++ lack c.size c.at bytes)

-- what is left of the tile behind the header, if these bytes are left of the source
abbrev pub body_left : Cut → Option (List ℕ) → Option (List ℕ)
body_left c left = option_map (left_of c) left

-- what is left of a tile
abbrev pub tile_left : Tile → Option (List ℕ) → Option (List ℕ)
tile_left t left = prepend_known t.header (body_left t.cut (prepend_known t.ahead left))

-- what is left of a source, or of the tile of it that was asked for
abbrev pub left_in : Option Tile → Option (List ℕ) → Option (List ℕ)
left_in None left = left
left_in (Some t) left = tile_left t left

abbrev pub source_left : {S : Type 0} → (S → Option (List ℕ)) → TileSource S → Option (List ℕ)
source_left left s = left_in s.tile (left s.source)

-- no tile of it was asked for
abbrev pub IsUncut : {S : Type 0} → TileSource S → Type 0
IsUncut s = s.tile ≡ None

-- how often a read failed since the source ended before its size
abbrev pub lacks_in : Option Tile → ℕ
lacks_in None = 0
lacks_in (Some t) = t.lacks

abbrev pub lacks : {S : Type 0} → TileSource S → ℕ
lacks s = lacks_in s.tile

-- its faults: those of the source under it, and each read at its end if that comes before its size
abbrev pub source_faults : {S : Type 0} → (S → ℕ) → TileSource S → ℕ
source_faults faults s = faults s.source + lacks_in s.tile

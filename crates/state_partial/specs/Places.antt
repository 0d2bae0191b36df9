-- Which bytes of a source a part is of: what was read of those that the source brings, and where they lie.
use Rattle.std.specs.Prelude.{◌≡◌, ◌<◌, ◌≤◌, ◌+◌, ◌-◌, ◌^◌, ◌⊎◌, ◌∷◌, [], ℕ, zero, suc, List, Option, IfSome, Some, length, map, option_map}
use Rattle.csv_rows.specs.Readings.{exchanged}
use Rattle.plan_spec.specs.Query.{Query}
use Rattle.state_head.specs.declared.cover.Place.{Place}
use Rattle.state_head.specs.declared.cover.Rows.{Rows}
use Rattle.state_head.specs.declared.cover.Stretch.{Stretch}
use Rattle.state_law.specs.Sources.{whole_place}
use Rattle.state_partial.specs.declared.words.Extent.{Extent}
use Rattle.state_partial.specs.declared.words.Extent.TheVariants as extent
use Rattle.tile_source.specs.Begins.{Begins, Brings, Brought}
use Rattle.tile_source.specs.declared.open.Begin.{Begin}
use Rattle.tile_source.specs.declared.open.Span.{Span}

-- ---- what is read

-- the text with a comma between two fields that some bytes are by a query: the comma and its separator are exchanged
abbrev pub text_by : Query → List ℕ → List ℕ
text_by query bytes = map (exchanged query.reading.separator) bytes

-- that of a source, if it tells what it brings
abbrev pub text_left : Query → Option (List ℕ) → Option (List ℕ)
text_left query left = option_map (text_by query) left

-- what a source that brings these bytes has left when its reading begins: all of them, or the header and a tile
abbrev pub IsLeft : Extent → List ℕ → Begin → Option (List ℕ) → Type 0
IsLeft extent.Whole bytes b left = left ≡ Some bytes
IsLeft (extent.Tile span) bytes b left = Begins span bytes b left

-- so, if it tells what it brings
abbrev pub AreLeft : Extent → Option (List ℕ) → Option (List ℕ) → Type 0
AreLeft e brings left = IfSome brings (λ bytes. (b : Begin) × IsLeft e bytes b left)

-- ---- where it lies

-- a tile that is asked for from the front on begins there, with the header; each other one where it was found to begin
abbrev pub tile_from : ℕ → ℕ → ℕ
tile_from zero at = 0
tile_from (suc from) at = at

-- a tile of this many bytes ends behind them, wherever it was to end
abbrev pub tile_place : ℕ → Span → Begin → ℕ → Place
tile_place source span b count = record { source = source; from = tile_from span.from b.at; to = b.at + count; size = span.size }

-- a tile of a source lies at this place, and this was read of it, after the header
pub record IsTileAt (source : ℕ) (span : Span) (bytes : List ℕ) (p : Place) (read : List ℕ) : Type 0 where
  pub begin : Begin
  pub begins : Begins span bytes begin (Some read)
  pub place : p ≡ tile_place source span begin (length begins.body)
  pub within : p.to ≤ span.size
  pub fits : span.size < 2 ^ 64

-- of the bytes that a source brings these were read, and lie at this place of it
abbrev pub AreRead : ℕ → Extent → List ℕ → Place → List ℕ → Type 0
AreRead source extent.Whole bytes p read = (p ≡ whole_place source bytes) × (read ≡ bytes)
AreRead source (extent.Tile span) bytes p read = IsTileAt source span bytes p read

-- the place of a tile by how many bytes it has
abbrev pub IsPlaceOfTile : ℕ → Span → Begin → ℕ → Place → Type 0
IsPlaceOfTile source span b count p = (p ≡ tile_place source span b count) × (p.to ≤ span.size) × (span.size < 2 ^ 64)

-- the place of what was read, by how many bytes it had: those of a tile come after the header
abbrev pub IsPlaceOf : ℕ → Extent → Begin → ℕ → Place → Type 0
IsPlaceOf source extent.Whole b size p = p ≡ record { source = source; from = 0; to = size; size = size }
IsPlaceOf source (extent.Tile span) b size p = IsPlaceOfTile source span b (size - b.header) p

-- there is none, since the tile would end behind the size
abbrev pub HasNoPlace : Extent → Begin → ℕ → Type 0
HasNoPlace extent.Whole b size = ⊥
HasNoPlace (extent.Tile span) b size = span.size < b.at + (size - b.header)

-- a place within its source
pub record IsWithin (source : ℕ) (p : Place) : Type 0 where
  pub source_is : p.source ≡ source
  pub order : p.from ≤ p.to
  pub within : p.to ≤ p.size

-- a place that a cover can have: it has bytes, unless its source has none
abbrev pub IsFilled : Place → Type 0
IsFilled p = (p.from < p.to) ⊎ (p.size ≡ 0)

-- the cover of a place: one stretch, or none if it has no bytes
abbrev pub IsCoverOf : Place → Rows → List Stretch → Type 0
IsCoverOf p rows cover = (IsFilled p × (cover ≡ record { place = p; rows = rows } ∷ [])) ⊎ ((p.from ≡ p.to) × (0 < p.size) × (cover ≡ []))

-- ---- a size that is not that of the source

-- a source brings more bytes from where its tile begins on than there are up to the size
pub record IsLonger (span : Span) (bytes : List ℕ) : Type 0 where
  pub begin : Begin
  pub brought : Brought
  pub brings : Brings span bytes begin brought
  pub longer : span.size < begin.at + length brought.tail

-- That what comes of a run is a file of the sources, if the source brings its own text.
use Rattle.std.specs.Prelude.{◌≡◌, ◌<◌, ◌⊎◌, ◌++◌, ◌∷◌, [], ℕ, List, drop, length, map}
use Rattle.csv_rows.specs.Cuts.{IsCut}
use Rattle.csv_rows.specs.Readings.{exchanged, records_as}
use Rattle.csv_rows.specs.declared.cleaning.Reading.{Reading}
use Rattle.state_law.specs.Made.{IsMade}
use Rattle.state_law.specs.Sources.{Work, comma_text}
use Rattle.state_partial.specs.Parts.{IsPartText}
use Rattle.state_partial.specs.declared.words.Extent.{Extent}
use Rattle.state_partial.specs.declared.words.Extent.TheVariants as extent
use Rattle.tile_source.specs.Begins.{EndsInRecord, IsLineEnd}

-- bytes are a line that is this header, as it is read, and then a text from some place on
pub record AreFrom (reading : Reading) (header : List (List ℕ)) (from : ℕ) (text bytes : List ℕ) : Type 0 where
  pub line : List ℕ
  pub line_end : List ℕ
  pub are : bytes ≡ line ++ (line_end ++ drop from text)
  pub one : records_as reading line ≡ header ∷ []
  pub whole : IsCut line
  pub last : EndsInRecord line
  pub ends : IsLineEnd line_end

-- A source of this text with commas brings what the words say: all of it; or, for a tile of this many bytes as it has, all of it from its
-- front on, or else the line of its header and what comes from the place on
abbrev pub IsBrought : Reading → List (List ℕ) → Extent → List ℕ → List ℕ → Type 0
IsBrought reading header extent.Whole text bytes = bytes ≡ text
IsBrought reading header (extent.Tile span) text bytes = (span.size ≡ length text) × (((span.from ≡ 0) × (bytes ≡ text)) ⊎ ((0 < span.from) × AreFrom reading header span.from text bytes))

-- then the file came about of the sources, wherever the tile was to begin and to end: all that is said of such files is so of it
abbrev pub PartIsMade : Type 0
PartIsMade = (w : Work) (words : List (List ℕ)) (bytes text : List ℕ) (t : IsPartText words bytes text) → t.is_part.query.plan ≡ w.names → t.is_part.query.reading ≡ w.reading → t.is_part.header ≡ w.header
    → IsBrought w.reading w.header t.asked.extent (comma_text w t.asked.part.source) (map (exchanged w.reading.separator) bytes) → IsMade w t.file

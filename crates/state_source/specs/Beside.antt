-- Files of a source in ranges of keys, each looked at before it is added.
use Rattle.std.specs.Prelude.{◌≡◌, ◌<◌, ◌≤◌, ◌++◌, ℕ, List, None, Option, Some, drop, length, slice_index_or}
use Rattle.std.specs.FinMap as finite
use Rattle.std.specs.Io.KnownBytes.{IsAtEnd}
use Rattle.partial_agg.specs.Groups.{GroupsByKey}
use Rattle.state_blocks.specs.Blocks.{blocks_bytes}
use Rattle.state_head.specs.Head.{Subject}
use Rattle.state_head.specs.Words.{Keys}
use Rattle.state_head.specs.declared.cover.Stretch.{Stretch}
use Rattle.state_load.specs.Loading.{AreParts, IsPart, files_bytes, stretches_of, sum_of}
use Rattle.state_ranges.specs.Sums.{AreRangeSums}
use Rattle.state_ranges.specs.declared.maps.RangeMap.{RangeMap}
use Rattle.state_ranges.specs.declared.sums.RangeSums.{RangeSums}
use Rattle.state_source.specs.Adding.{IsFaultOf}
use Rattle.state_source.specs.Reading.{Held, ReadsOn}
use Rattle.state_source.specs.declared.adding.SourceFault.{SourceFault}
use Rattle.state_source.specs.declared.beside.Seen.{Seen}
use Rattle.state_whole.specs.Adding.{sum_with}
use Rattle.state_whole.specs.Files.{StateFile, file_bytes, tuples_in}
use Rattle.state_whole.specs.Sums.{AreBounded}
use Rattle.state_whole.specs.declared.adding.Shape.{Shape}

-- a text is files of this query, whose groups are in the maps of their ranges
pub record AreInRanges (shape : Shape) (subject : Subject) (keys : Keys) (bytes : List ℕ) (sums : RangeSums) : Type 0 where
  pub files : List StateFile
  pub are : AreParts shape subject keys files
  pub is : bytes ≡ files_bytes shape files
  pub sum_is : AreRangeSums shape.columns (sum_of shape finite.empty files) (stretches_of files) sums

-- what was kept of a file of this query
pub record IsSeenOf (shape : Shape) (subject : Subject) (keys : Keys) (f : StateFile) (seen : Seen) : Type 0 where
  pub is_part : IsPart shape subject keys f
  pub cover_is : seen.cover.items ≡ f.preface.cover
  pub blocks_are : seen.blocks.items ≡ blocks_bytes shape.kinds.now f.blocks

-- a file that was looked at was added to sums, whatever there was in them
pub record IsAddedTo (shape : Shape) (seen : Seen) (old new : RangeSums) : Type 0 where
  pub sum : (subject : Subject) (keys : Keys) (m : GroupsByKey) (cover : List Stretch) (f : StateFile) → AreRangeSums shape.columns m cover old → IsSeenOf shape subject keys f seen
      → AreRangeSums shape.columns (sum_with shape m (tuples_in f)) (cover ++ f.preface.cover) new

-- a group of one of these maps has more than 2^50 rows
pub record HasManyRows (ranges : List RangeMap) : Type 0 where
  pub k : ℕ
  pub or : RangeMap
  pub before : k < length ranges
  pub many : AreBounded (slice_index_or ranges k or).map → ⊥

-- the file that a text begins with was looked at, and this is left of the text
pub record IsSeen (shape : Shape) (subject : Subject) (keys : Keys) (text rest : List ℕ) (seen : Seen) : Type 0 where
  pub f : StateFile
  pub seen_of : IsSeenOf shape subject keys f seen
  pub is : text ≡ file_bytes shape.kinds.now f ++ rest

-- likewise, and it has this many bytes as the text has at least
abbrev pub IsSeenIn : Shape → Subject → Keys → List ℕ → Seen → Type 0
IsSeenIn shape subject keys bytes seen = (seen.size ≤ length bytes) × IsSeen shape subject keys bytes (drop seen.size bytes) seen

-- why bytes are not files of this query, whatever was added before, and whatever bytes come after them
pub record IsLastingFault (shape : Shape) (subject : Subject) (keys : Keys) (bytes : List ℕ) (why : SourceFault) : Type 0 where
  pub each : (m : GroupsByKey) (more : List ℕ) → IsFaultOf shape subject keys m (bytes ++ more) why

-- more was read, if need be, and a file was looked at; or all was read, and there was none
abbrev pub ComesOn : Shape → Subject → Keys → Option (List ℕ) → Option (List ℕ) → Held → Held → Option Seen → Type 0
ComesOn shape subject keys was left before after (Some seen) = (text : List ℕ) × ReadsOn was left before.bytes text × IsSeen shape subject keys text after.bytes seen
ComesOn shape subject keys was left before after None = ReadsOn was left before.bytes after.bytes × IsAtEnd left

-- Why there is no file of a part: the status, what its line says, and when it is so.
use Rattle.std.specs.Prelude.{◌≡◌, ◌<◌, ◌⊎◌, ℕ, List, IfSome, None, Option, Some, codes, ⊤}
use Rattle.std.specs.Option.{option_map_or}
use Rattle.answer_text.specs.declared.status.TheConstants.{MISUSED, READ_FAULT, TOO_LARGE}
use Rattle.plan_spec.specs.Query.{Query}
use Rattle.state_plan.specs.FilePlans.{AskFor, HaveNoQuery}
use Rattle.state_partial.specs.Places.{AreLeft, IsLonger, text_left}
use Rattle.state_partial.specs.TooLong.{AskForLong}
use Rattle.state_partial.specs.Untaken.{untaken_in, untaken_text}
use Rattle.state_partial.specs.Words.{Asked, asked_in}
use Rattle.state_partial.specs.declared.no_part.NoPart.{NoPart}
use Rattle.state_partial.specs.declared.no_part.NoPart.TheVariants as no_part
use Rattle.state_partial.specs.declared.words.Extent.{Extent}
use Rattle.state_partial.specs.declared.words.Extent.TheVariants as extent
use Rattle.stream_groups.specs.Stops.{Tells, stop_says}
use Rattle.stream_groups.specs.Ways.{of_text}
use Rattle.stream_groups.specs.declared.stop.Stop.{Stop}
use Rattle.stream_groups.specs.declared.stop.Stop.TheVariants as stop
use Rattle.stream_groups.specs.declared.stop.TheConstants.{LONG_RECORD}
use Rattle.tile_source.specs.NoTiles.{EndsEarly, HasLongHeader, HasNoLine}
use Rattle.tile_source.specs.declared.header.NoTile.{NoTile}
use Rattle.tile_source.specs.declared.header.NoTile.TheVariants as no
use Rattle.tile_source.specs.declared.open.Span.{Span}

-- how the form is called
abbrev pub usage_text : List ℕ
usage_text = codes "usage: parstream partial [--source I/N] [--bytes FROM[-TO] --size SIZE] [--group COLUMNS] --agg ITEMS .. < PART > STATES"

-- the status of a reason, and what its line says
abbrev pub no_part_says : NoPart → ℕ × List ℕ
no_part_says no_part.Usage = (MISUSED, usage_text)
no_part_says (no_part.Untaken option) = (MISUSED, untaken_text option)
no_part_says no_part.Long = (TOO_LARGE, codes "too long for a file of states")
no_part_says no_part.NoLine = (MISUSED, codes "the bytes do not come after a line that is the header")
no_part_says no_part.LongHeader = (LONG_RECORD, codes "the header is longer than 67108864 bytes")
no_part_says no_part.Short = (READ_FAULT, codes "the source ends before its size")
no_part_says no_part.Grown = (READ_FAULT, codes "the source has more bytes than its size")
no_part_says (no_part.Stopped why) = stop_says why

-- the reason for a tile that there is not
abbrev pub part_of_tile : NoTile → NoPart
part_of_tile no.ReadFault = no_part.Stopped stop.ReadFault
part_of_tile no.NoHeader = no_part.NoLine
part_of_tile no.LongHeader = no_part.LongHeader
part_of_tile no.Short = no_part.Short
part_of_tile no.Memory = no_part.Stopped stop.Memory

-- the reason for words that ask for no part: an option that is not taken, if they have one
abbrev pub no_words : List (List ℕ) → NoPart
no_words words = option_map_or (λ option. no_part.Untaken option) (untaken_in words) no_part.Usage

-- words ask for no part, and have no such option, or ask for one of no plan
abbrev pub AskForNone : List (List ℕ) → Type 0
AskForNone words = ((asked_in words ≡ None) × (untaken_in words ≡ None)) ⊎ ((asked : Asked) × (asked_in words ≡ Some asked) × HaveNoQuery asked.words)

-- ---- what is so of a tile

-- bytes that are to begin with the line of a header do not: those for a tile that is not asked for from the front on
abbrev pub LacksLine : Span → List ℕ → Type 0
LacksLine span bytes = (0 < span.from) × HasNoLine bytes

-- they end before the size, and no tile has begun
abbrev pub IsShorter : Span → List ℕ → Type 0
IsShorter span bytes = (0 < span.from) × EndsEarly span bytes

-- the size is not that of the source
abbrev pub HasOtherSize : Span → List ℕ → Type 0
HasOtherSize span bytes = IsShorter span bytes ⊎ IsLonger span bytes

-- this is so of the tile that is asked for, and of the bytes that the source brings, if it tells them
abbrev pub OfTile : (Span → List ℕ → Type 0) → Extent → Option (List ℕ) → Type 0
OfTile is extent.Whole left = ⊥
OfTile is (extent.Tile span) left = IfSome left (is span)

-- words ask for a tile of which this is so, by their query
pub record AskForTile (is : Span → List ℕ → Type 0) (words : List (List ℕ)) (left : Option (List ℕ)) : Type 0 where
  pub asked : Asked
  pub is_asked : asked_in words ≡ Some asked
  pub query : Query
  pub ask_for : AskFor asked.words query
  pub so : OfTile is asked.extent (text_left query left)

-- ---- what is so of what was read

-- words ask for a part, and a reason tells why what is read of the bytes comes to none by its plan
pub record TellsOfPart (words : List (List ℕ)) (left : Option (List ℕ)) (why : Stop) : Type 0 where
  pub asked : Asked
  pub is_asked : asked_in words ≡ Some asked
  pub query : Query
  pub ask_for : AskFor asked.words query
  pub read : Option (List ℕ)
  pub are_left : AreLeft asked.extent (text_left query left) read
  pub tells : Tells (of_text query.reading) query read why

-- why the reading or the writing ended: a refused row is no reason
abbrev pub IsStopOf : List (List ℕ) → Option (List ℕ) → Stop → Type 0
IsStopOf words left stop.Usage = ⊥
IsStopOf words left stop.ReadFault = ⊤
IsStopOf words left stop.NoHeader = TellsOfPart words left stop.NoHeader
IsStopOf words left (stop.NoColumn said) = TellsOfPart words left (stop.NoColumn said)
IsStopOf words left (stop.TwiceColumn said) = TellsOfPart words left (stop.TwiceColumn said)
IsStopOf words left (stop.LongRecord row line said) = TellsOfPart words left (stop.LongRecord row line said)
IsStopOf words left (stop.Refused r) = ⊥
IsStopOf words left stop.WriteFault = ⊤
IsStopOf words left stop.Memory = ⊤

-- a reason is one of these words and these bytes; this many reads failed since the source had ended before its size
abbrev pub IsNoPart : List (List ℕ) → Option (List ℕ) → ℕ → NoPart → Type 0
IsNoPart words left lacks no_part.Usage = AskForNone words
IsNoPart words left lacks (no_part.Untaken option) = (asked_in words ≡ None) × (untaken_in words ≡ Some option)
IsNoPart words left lacks no_part.Long = AskForLong words left
IsNoPart words left lacks no_part.NoLine = AskForTile LacksLine words left
IsNoPart words left lacks no_part.LongHeader = AskForTile (λ span. HasLongHeader) words left
IsNoPart words left lacks no_part.Short = AskForTile IsShorter words left ⊎ (0 < lacks)
IsNoPart words left lacks no_part.Grown = AskForTile IsLonger words left
IsNoPart words left lacks (no_part.Stopped why) = IsStopOf words left why

-- a reason is one of whatever source brings this text with commas
abbrev pub IsWhyOf : List (List ℕ) → Query → Option (List ℕ) → ℕ → NoPart → Type 0
IsWhyOf words query read lacks why = (left : Option (List ℕ)) → read ≡ text_left query left → IsNoPart words left lacks why

-- a tile that is asked for has no beginning
abbrev pub HasNoBegin : Extent → Option (List ℕ) → NoPart → Type 0
HasNoBegin e left no_part.Usage = ⊥
HasNoBegin e left (no_part.Untaken option) = ⊥
HasNoBegin e left no_part.Long = ⊥
HasNoBegin e left no_part.NoLine = OfTile LacksLine e left
HasNoBegin e left no_part.LongHeader = OfTile (λ span. HasLongHeader) e left
HasNoBegin e left no_part.Short = OfTile IsShorter e left
HasNoBegin e left no_part.Grown = ⊥
HasNoBegin e left (no_part.Stopped why) = (why ≡ stop.ReadFault) ⊎ (why ≡ stop.Memory)

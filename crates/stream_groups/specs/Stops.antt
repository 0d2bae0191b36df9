-- What a reason to have no table says of the outcome.
use Rattle.std.specs.Prelude.{[], ◌∷◌, ◌≡◌, ◌<◌, ◌≤◌, ◌==◌, ◌+◌, ◌-◌, ◌^◌, ◌⊎◌, ◌++◌, ⊤, ℕ, List, None, Option, Some, String, IfSome, codes, length, decimal, string_bytes, take}
use Rattle.std.specs.Global.{Global}
use Rattle.csv_rows.specs.Readings.{records_in}
use Rattle.csv_rows.specs.Records.{record_at}
use Rattle.csv_rows.specs.declared.cleaning.Reading.{Reading}
use Rattle.par_model.specs.Named.{NamedPlan, bound_plan, missing_name}
use Rattle.par_model.specs.Outcome.{NoColumn, NoHeader, Refused, Table}
use Rattle.par_model.specs.Plan.{Plan}
use Rattle.par_model.specs.declared.refusal.Refusal.{Refusal}
use Rattle.partial_agg.specs.declared.map.BlockAnswer.{BlockAnswer}
use Rattle.partial_agg.specs.declared.map.BlockAnswer.TheVariants as answer
use Rattle.plan_spec.specs.Query.{Query}
use Rattle.plan_spec.specs.declared.plan.PlanAnswer.{PlanAnswer}
use Rattle.plan_spec.specs.declared.plan.PlanAnswer.TheVariants as words
use Rattle.answer_text.specs.declared.status.TheConstants.{MISUSED, NO_MEMORY, READ_FAULT, REFUSED, WRITE_FAULT}
use Rattle.row_blocks.specs.Blocks.{Table as Records}
use Rattle.row_windows.specs.Stretch.{Stretch}
use Rattle.row_windows.specs.declared.window.WindowAnswer.{WindowAnswer}
use Rattle.row_windows.specs.declared.window.WindowAnswer.TheVariants as window
use Rattle.shown_text.specs.Header.{missing_text}
use Rattle.stream_groups.specs.Said.{row_says}
use Rattle.stream_groups.specs.Begins.{IsPlaceIn, IsPlaceOfLong, PlacesLong, PlacesRow, feeds_of, lines_of, piece_at}
use Rattle.stream_groups.specs.Twice.{SaysTwice}
use Rattle.stream_groups.specs.Ways.{Way, of_bytes, of_text}
use Rattle.stream_groups.specs.declared.place.Place.{Place}
use Rattle.stream_groups.specs.Outcome.{outcome_over}
use Rattle.split_run.specs.Pieces.{AreUnder, piece_rows, rows_of}
use Rattle.stream_groups.specs.Reading.{Begins, HasAdded, HasPart, IsBound}
use Rattle.stream_groups.specs.declared.batch.Batch.{Batch}
use Rattle.stream_groups.specs.declared.adding.Added.{Added}
use Rattle.stream_groups.specs.declared.stop.TheConstants.{LONG_RECORD}
use Rattle.stream_groups.specs.declared.stop.RefusedRow.{RefusedRow}
use Rattle.stream_groups.specs.declared.stop.Stop.{Stop}
use Rattle.stream_groups.specs.declared.stop.Stop.TheVariants as stop

-- how the program is called
abbrev pub usage_text : List ℕ
usage_text = codes "usage: parstream [--group COLUMNS] --agg ITEMS [--where FILTER].. [--decimals PLACES] [--separator BYTE] [--null TEXTS] [--trim] [--workers N]"

-- the number of a row and its line, as digits, before what is said of it
abbrev pub row_front_of : List ℕ → List ℕ → List ℕ
row_front_of row line = codes "row " ++ (row ++ (codes " (line " ++ (line ++ codes "): ")))

-- the same by the two numbers
abbrev pub row_front : ℕ → ℕ → List ℕ
row_front row line = row_front_of (decimal row) (decimal line)

-- what is said of a record that is too long, before what is said of a quote in it
abbrev pub long_text : List ℕ
long_text = codes "longer than 67108864 bytes"

-- the status of a reason, and what its line says
abbrev pub stop_says : Stop → ℕ × List ℕ
stop_says stop.Usage = (MISUSED, usage_text)
stop_says stop.ReadFault = (READ_FAULT, codes "read fault")
stop_says stop.NoHeader = (MISUSED, codes "no header")
stop_says (stop.NoColumn said) = (MISUSED, string_bytes said)
stop_says (stop.TwiceColumn said) = (MISUSED, string_bytes said)
stop_says (stop.LongRecord row line said) = (LONG_RECORD, row_front row line ++ string_bytes said)
stop_says (stop.Refused r) = (REFUSED, row_front r.row r.line ++ string_bytes r.said)
stop_says stop.WriteFault = (WRITE_FAULT, codes "write fault")
stop_says stop.Memory = (NO_MEMORY, codes "out of memory")

-- What is said of a column: it is the text for a name that a header lacks, and if a source tells what it had left, the
-- outcome of the query lacks this name, and the header is the first record
pub record NamesColumn (way : Way) (query : Query) (left : Option (List ℕ)) (said : List ℕ) : Type 0 where
  pub name : List ℕ
  pub header : List (List ℕ)
  pub says : said ≡ missing_text name header
  pub lacks : IfSome left (λ bytes. (outcome_over way query.plan bytes ≡ NoColumn name) × (record_at (way.records bytes) 0 ≡ header))

-- What is said of a column that the header has twice: it is the text for it, and if a source tells what it had left, the
-- header is the first record, and has all names of the query
pub record NamesTwice (way : Way) (query : Query) (left : Option (List ℕ)) (said : List ℕ) : Type 0 where
  pub header : List (List ℕ)
  pub says : SaysTwice (bound_plan header query.plan) header said
  pub whole : missing_name header query.plan ≡ None
  pub is : IfSome left (λ bytes. record_at (way.records bytes) 0 ≡ header)

-- A record that is too long, with its line and what is said of it: if a source tells what it had left, it is there
pub record NamesLong (way : Way) (query : Query) (left : Option (List ℕ)) (row line : ℕ) (said : List ℕ) : Type 0 where
  pub quote : List ℕ
  pub says : said ≡ long_text ++ quote
  pub places : IfSome left (λ bytes. PlacesLong way query.plan bytes row line quote)

-- A row that is named, with its line, its refusal and what is said of it: that is the text for this refusal, with its fields
-- and a header, of which these are the bytes in the input, and for a quote in it that is not closed, and if a source tells what
-- it had left, the outcome of the query refuses this row for it, first of all, these are the records, and it begins in this line
pub record NamesFirstRow (way : Way) (query : Query) (left : Option (List ℕ)) (row line : ℕ) (refusal : Refusal) (header_line said : List ℕ) : Type 0 where
  pub header : List (List ℕ)
  pub one : records_in query.reading header_line ≡ header ∷ []
  pub fields : List (List ℕ)
  pub quote : List ℕ
  pub says : said ≡ row_says query.plan (bound_plan header query.plan) header fields refusal ++ quote
  pub places : IfSome left (λ bytes. PlacesRow (way.text bytes) row line quote)
  pub first : IfSome left (λ bytes. (others : List (ℕ × Refusal)) × (outcome_over way query.plan bytes ≡ Refused ((row, refusal) ∷ others)))
  pub are : IfSome left (λ bytes. (record_at (way.records bytes) 0 ≡ header) × (record_at (way.records bytes) row ≡ fields))

-- what a reason says of what a query is over, if a source, whose bytes are read so, tells what it had left
abbrev pub Tells : Way → Query → Option (List ℕ) → Stop → Type 0
Tells way query left stop.Usage = ⊥
Tells way query left stop.ReadFault = ⊤
Tells way query left stop.NoHeader = IfSome left (λ bytes. outcome_over way query.plan bytes ≡ NoHeader)
Tells way query left (stop.NoColumn said) = NamesColumn way query left (string_bytes said)
Tells way query left (stop.TwiceColumn said) = NamesTwice way query left (string_bytes said)
Tells way query left (stop.LongRecord row line said) = NamesLong way query left row line (string_bytes said)
Tells way query left (stop.Refused r) = NamesFirstRow way query left r.row r.line r.why r.header.items (string_bytes r.said)
Tells way query left stop.WriteFault = IfSome left (λ bytes. outcome_over way query.plan bytes ≡ Table)
Tells way query left stop.Memory = ⊤

-- Why the rows of a batch were not added to some others, which come before them: it is so said of each source
-- whose records begin with the header and all these rows
abbrev pub TellsOfRows : Query → Plan → Batch → Added → Stop → Type 0
TellsOfRows query plan b added why = (from left : Option (List ℕ)) (header : List (List ℕ)) (rows : Records) → IsBound query header plan → AreUnder header b.pieces.items → HasAdded plan (length header) rows added
    → Begins query.reading from (header ∷ (rows ++ rows_of b.pieces.items)) → (0 < length (lines_of b.pieces.items) → HasPart query.reading from left (header ∷ rows) b.before b.pieces.items b.next.rest) → Tells (of_text query.reading) query from why

-- what a reason says of what words ask for, a query or nothing
abbrev pub TellsOf : Option Query → Option (List ℕ) → Stop → Type 0
TellsOf None left why = (why ≡ stop.Usage) ⊎ (why ≡ stop.Memory)
TellsOf (Some query) left why = Tells (of_bytes query.reading) query left why

-- what is said of a record that is too long, of which this text was read, after this many line feeds
pub record SaysOfLong (feeds : ℕ) (text : List ℕ) (at : ℕ) (said : List ℕ) : Type 0 where
  pub place : Place
  pub is : IsPlaceOfLong text feeds place
  pub line : at ≡ place.line
  pub says : said ≡ long_text ++ string_bytes place.quote

-- the reason is that the record of this number is too long
abbrev pub IsStopOfLong : ℕ → ℕ → List ℕ → Stop → Type 0
IsStopOfLong row feeds text why = (line : ℕ) × (said : String Global) × (why ≡ stop.LongRecord row line said) × SaysOfLong feeds text line (string_bytes said)

-- the reason for a window that was not filled, after this many records and line feeds, or out of memory
abbrev pub IsStopOfWindow : WindowAnswer → ℕ → ℕ → List ℕ → Stop → Type 0
IsStopOfWindow window.ReadFault row feeds text why = why ≡ stop.ReadFault
IsStopOfWindow window.LongRecord row feeds text why = IsStopOfLong row feeds text why ⊎ (why ≡ stop.Memory)
IsStopOfWindow window.Memory row feeds text why = why ≡ stop.Memory

-- the reason that stands for an answer of `of_words`
abbrev pub stop_of_words : PlanAnswer → Stop
stop_of_words words.Usage = stop.Usage
stop_of_words words.Memory = stop.Memory

-- a text says of a plan that a header lacks a name of it
pub record SaysMissing (plan : NamedPlan) (header : List (List ℕ)) (said : List ℕ) : Type 0 where
  pub name : List ℕ
  pub lacks : missing_name header plan ≡ Some name
  pub says : said ≡ missing_text name header

-- a reason says of a header that it has not the columns of a plan, each once, or is out of memory
abbrev pub SaysOfHeader : NamedPlan → List (List ℕ) → Stop → Type 0
SaysOfHeader plan header why = (why ≡ stop.Memory) ⊎ (((said : String Global) × (why ≡ stop.NoColumn said) × SaysMissing plan header (string_bytes said))
    ⊎ ((said : String Global) × (why ≡ stop.TwiceColumn said) × SaysTwice (bound_plan header plan) header (string_bytes said) × (missing_name header plan ≡ None)))

-- a table has a header, and at a place the record of this number of some records, of which the first is that header
abbrev pub IsRow : Records → ℕ → Records → ℕ → Type 0
IsRow records number table at = (record_at table 0 ≡ record_at records 0) × (record_at table at ≡ record_at records number)

-- A text says of a row of some pieces that it is refused, and in which line it begins; this many line feeds come before their
-- lines. The row is one of a piece, and has the place there that its number among that one's rows says
pub record SaysOfRow (plan : NamedPlan) (bound : Plan) (pieces : List Stretch) (row feeds : ℕ) (why : Refusal) (begins : ℕ) (said : List ℕ) : Type 0 where
  pub piece : ℕ
  pub at : ℕ
  pub place : Place
  pub within : piece < length pieces
  pub some : 1 ≤ at
  pub high : at ≤ length (piece_rows (piece_at pieces piece))
  pub number : length (rows_of (take piece pieces)) + at ≡ row
  pub is : IsPlaceIn (piece_at pieces piece).lines (at - 1) (at == length (piece_rows (piece_at pieces piece))) (feeds + feeds_of (take piece pieces)) place
  pub line : begins ≡ place.line
  pub says : (header : List (List ℕ)) → AreUnder header pieces → said ≡ row_says plan bound header (record_at (header ∷ rows_of pieces) row) why ++ string_bytes place.quote

-- these bytes of the input have one record, the header that some pieces are under
abbrev pub IsHeaderLine : Reading → List Stretch → List ℕ → Type 0
IsHeaderLine reading pieces bytes = (header : List (List ℕ)) → AreUnder header pieces → records_in reading bytes ≡ header ∷ []

-- the row of this number is refused so, which is this row of some pieces, and it has the text for it
pub record AreOfRow (reading : Reading) (plan : NamedPlan) (bound : Plan) (pieces : List Stretch) (number place feeds : ℕ) (refusal : Refusal) (r : RefusedRow) : Type 0 where
  pub row : r.row ≡ number
  pub why : r.why ≡ refusal
  pub header : IsHeaderLine reading pieces r.header.items
  pub says : SaysOfRow plan bound pieces place feeds refusal r.line (string_bytes r.said)

-- the reason is that this row is refused
abbrev pub IsRefusedRow : Reading → NamedPlan → Plan → List Stretch → ℕ → ℕ → ℕ → Refusal → Stop → Type 0
IsRefusedRow reading plan bound pieces number row feeds refusal why = (r : RefusedRow) × (why ≡ stop.Refused r) × AreOfRow reading plan bound pieces number row feeds refusal r

-- the reason says of an answer on the rows of some pieces, after this many others and line feeds, what the answer says, or is
-- out of memory
abbrev pub Restates : Reading → NamedPlan → Plan → List Stretch → ℕ → ℕ → BlockAnswer → Stop → Type 0
Restates reading plan bound pieces before feeds (answer.Row row cause item) why = before + row < 2 ^ 64 → IsRefusedRow reading plan bound pieces (before + row) row feeds (record { cause = cause; item = item }) why ⊎ (why ≡ stop.Memory)
Restates reading plan bound pieces before feeds answer.Memory why = why ≡ stop.Memory

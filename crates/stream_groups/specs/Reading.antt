-- What was read of a source, window by window.
use Rattle.std.specs.Prelude.{◌≡◌, ◌<◌, ◌≤◌, ◌+◌, ◌++◌, ◌^◌, ◌⊎◌, [], ◌∷◌, ℕ, Bool, List, None, Option, Some, All, IfSome, false, length, map, true, ⊤}
use Rattle.std.specs.Io.KnownBytes.{IsAtEnd}
use Rattle.csv_rows.specs.Cuts.{IsCut}
use Rattle.csv_rows.specs.Readings.{records_as, records_in}
use Rattle.csv_rows.specs.Records.{record_at}
use Rattle.csv_rows.specs.declared.cleaning.Reading.{Reading}
use Rattle.par_io.specs.Faults.{Rose}
use Rattle.par_model.specs.Columns.{HasColumns}
use Rattle.par_model.specs.Named.{bound_plan, missing_name}
use Rattle.par_model.specs.Plan.{Plan}
use Rattle.plan_spec.specs.Query.{Query}
use Rattle.row_blocks.specs.Blocks.{Table}
use Rattle.row_windows.specs.Seams.{BeginsLine, IsSeam}
use Rattle.row_windows.specs.Stretch.{Fills, IsLongWindow, Stretch}
use Rattle.row_windows.specs.declared.window.WindowAnswer.{WindowAnswer}
use Rattle.row_windows.specs.declared.window.WindowAnswer.TheVariants as answer
use Rattle.gather_law.specs.Shares.{together}
use Rattle.split_run.specs.Pieces.{AreUnder, piece_records, piece_rows, rows_of}
use Rattle.stream_groups.specs.Gathering.{HasGathered, participants_of}
use Rattle.text_lines.specs.Feeds.{count_feeds}
use Rattle.stream_groups.specs.Begins.{AllCut, AreCut, IsLined, feeds_of, lines_of}
use Rattle.stream_groups.specs.Twice.{twice_of}
use Rattle.stream_groups.specs.Ways.{Way}
use Rattle.stream_groups.specs.declared.batch.Batch.{Batch}
use Rattle.stream_groups.specs.declared.filling.First.{First}
use Rattle.stream_groups.specs.declared.adding.Added.{Added}
use Rattle.stream_groups.specs.declared.reading.ReadGroups.{ReadGroups}
use Rattle.stream_groups.specs.declared.reading.Stream.{Stream}

-- ---- the source, of whose bytes the comma and the separator were exchanged

-- Of a source that had some bytes left and now has others: they are a front, a rest that was read, and what is left. The
-- front has some records and this many line feeds, and ends outside quotes; the records of all bytes are these, and those of
-- the rest and of what is left. If there is a front, the rest begins with the end of a line
pub record AreRead (reading : Reading) (bytes left : List ℕ) (records : Table) (count : ℕ) (rest : List ℕ) : Type 0 where
  pub front : List ℕ
  pub are : bytes ≡ front ++ (rest ++ left)
  pub is : records_as reading front ≡ records
  pub parts : records_as reading bytes ≡ records ++ records_as reading (rest ++ left)
  pub feeds : count_feeds front ≡ count
  pub whole : IsCut front
  pub begins : (front ≡ []) ⊎ BeginsLine rest

-- likewise where the source tells
abbrev pub HasRead : Reading → Option (List ℕ) → Option (List ℕ) → Table → ℕ → List ℕ → Type 0
HasRead reading None left records feeds rest = ⊤
HasRead reading (Some bytes) None records feeds rest = ⊥
HasRead reading (Some bytes) (Some left) records feeds rest = AreRead reading bytes left records feeds rest

-- some records are those of all bytes that a source had left, where it tells
abbrev pub HasAll : Reading → Option (List ℕ) → Table → Type 0
HasAll reading from records = IfSome from (λ bytes. records_as reading bytes ≡ records)

-- the records of all these bytes begin with some
abbrev pub Begins : Reading → Option (List ℕ) → Table → Type 0
Begins reading from records = IfSome from (λ bytes. (more : Table) × (records_as reading bytes ≡ records ++ more))

-- The lines of some windows are a part of bytes: before them come some records and this many line feeds, which end outside
-- quotes, and after them other bytes. If there are such bytes, they begin with the end of a line, and the lines of each window
-- end outside quotes
pub record ArePart (reading : Reading) (bytes : List ℕ) (records : Table) (count : ℕ) (pieces : List Stretch) (back : List ℕ) : Type 0 where
  pub front : List ℕ
  pub are : bytes ≡ front ++ (lines_of pieces ++ back)
  pub is : records_as reading front ≡ records
  pub feeds : count_feeds front ≡ count
  pub whole : IsCut front
  pub cuts : AreCut pieces
  pub next : (back ≡ []) ⊎ (BeginsLine back × AllCut pieces)

-- likewise of a source that had some bytes left and now has others, after a rest that was read, if it tells
abbrev pub HasPart : Reading → Option (List ℕ) → Option (List ℕ) → Table → ℕ → List Stretch → List ℕ → Type 0
HasPart reading None left records feeds pieces rest = ⊤
HasPart reading (Some bytes) None records feeds pieces rest = ⊥
HasPart reading (Some bytes) (Some left) records feeds pieces rest = ArePart reading bytes records feeds pieces (rest ++ left)

-- what there is of a source after a window that is the last, or not
pub record Reaches (reading : Reading) (from left : Option (List ℕ)) (records : Table) (feeds : ℕ) (rest : List ℕ) (is_last : Bool) : Type 0 where
  pub all : is_last ≡ true → HasAll reading from records
  pub more : is_last ≡ false → HasRead reading from left records feeds rest

-- ---- a window

-- a window has the header of another, and is read as it is
pub record IsLike (was now : Stretch) : Type 0 where
  pub header : now.header ≡ was.header
  pub reading : now.reading ≡ was.reading

-- a window of no lines was filled from a source: its lines and its rest are what there was of them and what was read
pub record IsFilled (old new : Option (List ℕ)) (was now : Stretch) (is_last : Bool) : Type 0 where
  pub like : IsLike was now
  pub reads : Fills old new was.rest (now.lines ++ now.rest)
  pub last : is_last ≡ true → (now.rest ≡ []) × IsAtEnd new
  pub seam : is_last ≡ false → IsSeam now.lines now.rest
  pub line : BeginsLine was.rest → BeginsLine now.lines

-- why it was not filled: a read failed, or what there was and what was read, which is its rest now, begins with a record
-- that is too long
abbrev pub IsNotFilled : Option (List ℕ) → Option (List ℕ) → ℕ → ℕ → Stretch → Stretch → WindowAnswer → Type 0
IsNotFilled old new old_faults new_faults was now answer.ReadFault = Rose old_faults new_faults
IsNotFilled old new old_faults new_faults was now answer.LongRecord = IsLongWindow old new was now
IsNotFilled old new old_faults new_faults was now answer.Memory = ⊤

-- a window begins with the line of a header, which has one record, and is cut off in front of the end of a line
pub record HasHeader (header : Table) (w : Stretch) (is_last : Bool) : Type 0 where
  pub one : length header ≡ 1
  pub line : records_as w.reading w.header ≡ header
  pub records : piece_records w ≡ record_at header 0 ∷ piece_rows w
  pub cut : is_last ≡ false → IsCut w.header
  pub next : is_last ≡ false → BeginsLine w.rest

-- this is that window with its record, which is the last or not, after this many line feeds and those of the header's line
pub record IsFirst (w : Stretch) (record_of : Table) (is_last : Bool) (before : ℕ) (f : First) : Type 0 where
  pub window : f.window ≡ w
  pub header : f.header ≡ record_of
  pub last : f.is_last ≡ is_last
  pub feeds : f.feeds ≡ before + count_feeds w.header
  pub few : f.feeds ≤ 2 ^ 60

-- ---- a batch

-- the records of the lines of some windows
abbrev pub line_records : Reading → List Stretch → Table
line_records reading pieces = together (map (λ w. records_as reading w.lines) pieces)

-- One window more of a batch was filled from a source
pub record AddsPiece (old new : Option (List ℕ)) (was now : Batch) (is_last : Bool) : Type 0 where
  pub piece : Stretch
  pub pieces : now.pieces.items ≡ was.pieces.items ++ piece ∷ []
  pub filled : IsFilled old new was.next piece is_last
  pub like : IsLike piece now.next
  pub lines : now.next.lines ≡ []
  pub rest : now.next.rest ≡ piece.rest
  pub before : now.before ≡ was.before
  pub feeds : now.feeds ≡ was.feeds + count_feeds piece.lines
  pub few : now.feeds ≤ 2 ^ 60

-- no window more, since what comes next is too long: it was read into the rest
pub record MeetsLong (old new : Option (List ℕ)) (was now : Batch) : Type 0 where
  pub pieces : now.pieces ≡ was.pieces
  pub next : IsLongWindow old new was.next now.next
  pub before : now.before ≡ was.before
  pub feeds : now.feeds ≡ was.feeds

-- A batch was filled from a source, from a window on that has the rest of what was read, after this many line feeds:
-- its windows have that one's header, and the records and line feeds of their lines come next
pub record IsFilledBatch (old new : Option (List ℕ)) (was : Stretch) (feeds : ℕ) (b : Batch) (is_last : Bool) : Type 0 where
  pub before : b.before ≡ feeds
  pub counted : b.feeds ≡ feeds + feeds_of b.pieces.items
  pub few_feeds : b.feeds ≤ 2 ^ 60
  pub few : length b.pieces.items ≤ 64
  pub like : IsLike was b.next
  pub lines : b.next.lines ≡ []
  pub likes : All (IsLike was) b.pieces.items
  pub begins : BeginsLine was.rest → All (λ w. BeginsLine w.lines) b.pieces.items
  pub cut : is_last ≡ false → AllCut b.pieces.items
  pub reads : (from : Option (List ℕ)) (records : Table) → HasRead was.reading from old records feeds was.rest → Reaches was.reading from new (records ++ line_records was.reading b.pieces.items) b.feeds b.next.rest is_last
  pub part : (from : Option (List ℕ)) (records : Table) → BeginsLine was.rest → HasRead was.reading from old records feeds was.rest → HasPart was.reading from new records feeds b.pieces.items b.next.rest
  pub line : BeginsLine was.rest → is_last ≡ false → BeginsLine b.next.rest
  pub end : is_last ≡ true → IsAtEnd new

-- the windows of a batch are read so, and begin with the line of a header, which has one record and is cut off before the end
-- of a line
pub record IsHeaded (reading : Reading) (header : Table) (b : Batch) (is_last : Bool) : Type 0 where
  pub few : length b.pieces.items ≤ 64
  pub one : length header ≡ 1
  pub reading_is : b.next.reading ≡ reading
  pub line : records_as reading b.next.header ≡ header
  pub pieces : AreUnder (record_at header 0) b.pieces.items
  pub lines : All (IsLined reading) b.pieces.items
  pub counted : b.feeds ≡ b.before + feeds_of b.pieces.items
  pub few_feeds : b.feeds ≤ 2 ^ 60
  pub cut : is_last ≡ false → IsCut b.next.header
  pub next : is_last ≡ false → BeginsLine b.next.rest

-- ---- the rows

-- a plan is that of a query over the columns of a header, which has all of them, and each once
pub record IsBound (query : Query) (header : List (List ℕ)) (plan : Plan) : Type 0 where
  pub is : plan ≡ bound_plan header query.plan
  pub columns : HasColumns plan (length header)
  pub whole : missing_name header query.plan ≡ None
  pub once : twice_of plan header ≡ None

-- what was added is these rows, none of which is refused
pub record HasAdded (plan : Plan) (width : ℕ) (rows : Table) (a : Added) : Type 0 where
  pub count : a.count ≡ length rows
  pub groups : HasGathered plan width rows a.gathered

-- the rows of a batch were added, by the same number of participants
pub record AddsBatch (plan : Plan) (b : Batch) (old new : Added) : Type 0 where
  pub rows : (header : List (List ℕ)) (rows : Table) → AreUnder header b.pieces.items → HasAdded plan (length header) rows old → HasAdded plan (length header) (rows ++ rows_of b.pieces.items) new
  pub many : participants_of new.gathered ≡ participants_of old.gathered
  pub few : new.count ≤ 2 ^ 50

-- a stream: its windows begin with its header, and there is a participant for each worker and one more
pub record IsStream (query : Query) (workers : ℕ) (plan : Plan) (s : Stream) : Type 0 where
  pub batch : IsHeaded query.reading s.header s.batch s.is_last
  pub bound : IsBound query (record_at s.header 0) plan
  pub many : participants_of s.added.gathered ≡ workers + 1
  pub few : s.added.count ≤ 2 ^ 50

-- It has added these rows, which were read of a source after the header; those of its batch come next, and if there are
-- lines, they are a part of what was read
pub record HasRows (reading : Reading) (plan : Plan) (from left : Option (List ℕ)) (s : Stream) (rows : Table) : Type 0 where
  pub added : HasAdded plan (length (record_at s.header 0)) rows s.added
  pub reaches : Reaches reading from left (record_at s.header 0 ∷ (rows ++ rows_of s.batch.pieces.items)) s.batch.feeds s.batch.next.rest s.is_last
  pub part : 0 < length (lines_of s.batch.pieces.items) → HasPart reading from left (record_at s.header 0 ∷ rows) s.batch.before s.batch.pieces.items s.batch.next.rest

-- what was gathered is all rows of a source that is read so, of which none is refused; the line of the header is as it is in the
-- input
pub record AreGroupsOver (way : Way) (query : Query) (from : Option (List ℕ)) (r : ReadGroups) : Type 0 where
  pub header : List (List ℕ)
  pub rows : Table
  pub one : records_in query.reading r.header.items ≡ header ∷ []
  pub count : r.rows ≡ length rows
  pub bound : IsBound query header r.bound
  pub groups : HasGathered r.bound (length header) rows r.gathered
  pub few : length rows ≤ 2 ^ 50
  pub all : IfSome from (λ bytes. way.records bytes ≡ header ∷ rows)

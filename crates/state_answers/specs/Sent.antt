-- Bytes of files that came about of some sources, as an engine brings them, and what the forms come to over them.
use Rattle.std.specs.Prelude.{◌≡◌, ◌<◌, ◌≤◌, ◌^◌, ◌++◌, ◌∷◌, ℕ, List, [], All, get_or, length}
use Rattle.csv_rows.specs.Cuts.{IsCut}
use Rattle.csv_rows.specs.Readings.{records_as, records_in}
use Rattle.par_model.specs.Named.{bound_plan}
use Rattle.par_model.specs.Outcome.{IsAnswer}
use Rattle.partial_agg.specs.Groups.{AreGroups}
use Rattle.plan_spec.specs.Query.{Query}
use Rattle.state_head.specs.Head.{Subject}
use Rattle.state_head.specs.declared.cover.Place.{Place}
use Rattle.state_head.specs.declared.cover.Stretch.{Stretch}
use Rattle.state_law.specs.Law.{with_header}
use Rattle.state_law.specs.Made.{IsMade}
use Rattle.state_law.specs.Sources.{IsTile, Work, all_records, all_rows, bytes_at, comma_text, rows_in, whole_place}
use Rattle.state_law.specs.Told.{all_keys}
use Rattle.state_law.specs.Truth.{IsFirstOfAll, IsReadOf}
use Rattle.state_load.specs.Loading.{files_bytes, stretches_of}
use Rattle.state_plan.specs.FilePlans.{AskFor, header_of}
use Rattle.state_query.specs.Inputs.{AreOneFile, Input, IsInput, IsTableOf, IsWhole, groups_in}
use Rattle.state_query.specs.Whys.{RefuseRow}
use Rattle.state_total.specs.Total.{IsCounted}
use Rattle.state_total.specs.declared.total.FirstRefused.{FirstRefused}
use Rattle.state_whole.specs.Adding.{IsShapeOf}
use Rattle.state_whole.specs.Files.{IsStateFile, StateFile, file_bytes}
use Rattle.state_whole.specs.declared.adding.Shape.{Shape}
use Rattle.table_query.specs.Lines.{refusal_text}
use Rattle.state_answers.specs.Answers.{IsOf}

-- a query over some sources: the words, the header and the number of sources that its files say, the query that the words ask for, and
-- the bytes of each source
pub record Job : Type 0 where
  pub subject : Subject
  pub query : Query
  pub texts : List (List ℕ)

abbrev pub work_by : Job → Work
work_by j = record { names = j.query.plan; reading = j.query.reading; header = header_of j.query.reading j.subject; texts = j.texts }

pub record IsJob (j : Job) : Type 0 where
  pub ask_for : AskFor j.subject.words j.query
  pub many : length j.texts ≡ j.subject.sources
  pub few : length (all_rows (work_by j)) < 2 ^ 64

-- the shape of its files
abbrev pub IsShapeBy : Job → Shape → Type 0
IsShapeBy j shape = IsShapeOf (bound_plan (header_of j.query.reading j.subject) j.query.plan) shape

-- a file of it, which can be read
pub record IsSent (j : Job) (shape : Shape) (f : StateFile) : Type 0 where
  pub made : IsMade (work_by j) f
  pub is_file : IsStateFile shape.columns shape.kinds.now f
  pub subject_is : f.preface.subject ≡ j.subject

-- bytes are those of such files, one after another: any of them, in any order, any number of times
pub record AreSent (j : Job) (bytes : List ℕ) : Type 0 where
  pub shape : Shape
  pub is_shape : IsShapeBy j shape
  pub files : List StateFile
  pub each : All (IsSent j shape) files
  pub are : bytes ≡ files_bytes shape files

-- however these bytes are read as an input, it is of this query and these sources
abbrev pub SentAreRead : Type 0
SentAreRead = (j : Job) (bytes : List ℕ) (i : Input) → IsJob j → AreSent j bytes → IsInput bytes i → (i.subject ≡ j.subject) × (i.query ≡ j.query) × IsOf j.texts i

-- so its groups, if it has all bytes of all sources, each once, and no row is refused, are those of all rows of all sources
abbrev pub SentGroupsAreAll : Type 0
SentGroupsAreAll = (j : Job) (bytes : List ℕ) (i : Input) (cover : List Stretch) → IsJob j → AreSent j bytes → IsInput bytes i → IsWhole i cover → All IsCounted cover
    → AreGroups (bound_plan (header_of j.query.reading j.subject) j.query.plan) (all_rows (work_by j)) (groups_in i)

-- the table that they come to is that of one pass over all rows of all sources
abbrev pub FinalizeAnswers : Type 0
FinalizeAnswers = (j : Job) (bytes text : List ℕ) → IsJob j → AreSent j bytes → IsTableOf bytes text → IsAnswer j.query.plan (all_records (work_by j)) text

-- so whatever the engine brought, in whatever files, order and tree, it is the same text
abbrev pub FinalizesAgree : Type 0
FinalizesAgree = (j : Job) (bytes others text other : List ℕ) → IsJob j → AreSent j bytes → AreSent j others → IsTableOf bytes text → IsTableOf others other → text ≡ other

-- this row of this source is the first refused one of all rows, and that is said of it
pub record Refuses (j : Job) (source row : ℕ) (said : List ℕ) : Type 0 where
  pub found : FirstRefused
  pub first : IsFirstOfAll (work_by j) found
  pub source_is : source ≡ found.source
  pub row_is : row ≡ found.why.row
  pub said_is : said ≡ refusal_text j.query.plan (record { cause = found.why.cause; item = found.why.item })

-- a refused row that they come to is the first one of all
abbrev pub FinalizeRefuses : Type 0
FinalizeRefuses = (j : Job) (bytes : List ℕ) (source row : ℕ) (said : List ℕ) → IsJob j → AreSent j bytes → RefuseRow bytes source row said → Refuses j source row said

-- bytes are those of a file that came about of the sources
pub record IsMadeFile (j : Job) (bytes : List ℕ) : Type 0 where
  pub shape : Shape
  pub is_shape : IsShapeBy j shape
  pub f : StateFile
  pub made : IsMade (work_by j) f
  pub subject_is : f.preface.subject ≡ j.subject
  pub is : bytes ≡ file_bytes shape.kinds.now f

-- the one file that they are put together to came about of the same sources
abbrev pub CombineIsMade : Type 0
CombineIsMade = (j : Job) (bytes file : List ℕ) → IsJob j → (sent : AreSent j bytes) → length (rows_in (work_by j) (stretches_of sent.files)) < 2 ^ 64 → AreOneFile bytes file → IsMadeFile j file

-- bytes of such files, and others after them, as `cat` puts them together
abbrev pub CatIsSent : Type 0
CatIsSent = (j : Job) (bytes others : List ℕ) → AreSent j bytes → AreSent j others → AreSent j (bytes ++ others)

-- the one file may be sent again, if there are at most 2^50 rows; so files may be put together in any tree
abbrev pub CombineIsSent : Type 0
CombineIsSent = (j : Job) (bytes file : List ℕ) → IsJob j → (sent : AreSent j bytes) → length (rows_in (work_by j) (stretches_of sent.files)) ≤ 2 ^ 50 → (one : AreOneFile bytes file) → one.input.keys ≡ all_keys
    → AreSent j file

-- what a reading of bytes gives as a file, by the plan that the words ask for
pub record IsPart (j : Job) (p : Place) (read : List ℕ) (f : StateFile) : Type 0 where
  pub query : Query
  pub ask_for : AskFor j.subject.words query
  pub header : List (List ℕ)
  pub header_is : records_in query.reading j.subject.header ≡ header ∷ []
  pub is_read : IsReadOf query.plan query.reading header p read f
  pub subject_is : f.preface.subject ≡ j.subject

-- bytes are those of a file that can be read
pub record IsFileText (j : Job) (f : StateFile) (bytes : List ℕ) : Type 0 where
  pub shape : Shape
  pub is_shape : IsShapeBy j shape
  pub is_file : IsStateFile shape.columns shape.kinds.now f
  pub is : bytes ≡ file_bytes shape.kinds.now f

-- so what `partial` made of a whole source may be sent
abbrev pub PartIsSent : Type 0
PartIsSent = (j : Job) (source : ℕ) (f : StateFile) (bytes : List ℕ) → IsJob j → IsPart j (whole_place source (get_or j.texts source [])) (comma_text (work_by j) source) f → IsFileText j f bytes → AreSent j bytes

-- and what it made of a tile of one, after the header
abbrev pub TileIsSent : Type 0
TileIsSent = (j : Job) (p : Place) (before : List ℕ) (f : StateFile) (bytes : List ℕ) → IsJob j → records_as j.query.reading before ≡ header_of j.query.reading j.subject ∷ [] → IsCut before → IsTile (work_by j) p
    → IsPart j p (with_header p.from before (bytes_at (work_by j) p)) f → IsFileText j f bytes → AreSent j bytes

-- whatever came about of the sources may be sent, if it can be read
abbrev pub MadeIsSent : Type 0
MadeIsSent = (j : Job) (f : StateFile) (bytes : List ℕ) → IsMade (work_by j) f → f.preface.subject ≡ j.subject → IsFileText j f bytes → AreSent j bytes

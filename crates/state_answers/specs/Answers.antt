-- What the files of an input come to, in terms of the rows of the sources.
use Rattle.std.specs.Prelude.{◌≡◌, ◌<◌, ◌^◌, ◌∷◌, ℕ, List, [], All, get_or, length, map}
use Rattle.csv_rows.specs.Cuts.{IsCut}
use Rattle.csv_rows.specs.Readings.{exchanged, records_as, records_in}
use Rattle.par_model.specs.Outcome.{IsAnswer}
use Rattle.partial_agg.specs.Groups.{AreGroups}
use Rattle.plan_spec.specs.Query.{Query}
use Rattle.state_head.specs.Words.{Words}
use Rattle.state_head.specs.declared.cover.Place.{Place}
use Rattle.state_head.specs.declared.cover.Stretch.{Stretch}
use Rattle.state_law.specs.Law.{with_header}
use Rattle.state_law.specs.Made.{IsMade}
use Rattle.state_law.specs.Sources.{IsTile, Work, all_records, all_rows, bytes_at, rows_in, whole_place}
use Rattle.state_law.specs.Truth.{IsFirstOfAll, IsReadOf}
use Rattle.state_load.specs.Loading.{stretches_of}
use Rattle.state_plan.specs.FilePlans.{AskFor, header_of}
use Rattle.state_query.specs.Inputs.{HasRefusedRow, HasText, Input, IsInput, IsOneFile, IsWhole, bound_of, groups_in}
use Rattle.state_total.specs.Total.{IsCounted}
use Rattle.state_total.specs.declared.total.FirstRefused.{FirstRefused}
use Rattle.state_whole.specs.Files.{StateFile}

-- the query of an input over sources of these bytes
abbrev pub work_of : Input → List (List ℕ) → Work
work_of i texts = record { names = i.query.plan; reading = i.query.reading; header = header_of i.query.reading i.subject; texts = texts }

-- these are the bytes of the sources, and each file came about of them, in whatever way
pub record IsOf (texts : List (List ℕ)) (i : Input) : Type 0 where
  pub many : length texts ≡ i.subject.sources
  pub few : length (all_rows (work_of i texts)) < 2 ^ 64
  pub made : All (IsMade (work_of i texts)) i.files

-- if they have all bytes of all sources, each once, and no row is refused, their groups are those of all rows of all sources
abbrev pub GroupsAreAll : Type 0
GroupsAreAll = (bytes : List ℕ) (i : Input) (texts : List (List ℕ)) (cover : List Stretch) → IsInput bytes i → IsOf texts i → IsWhole i cover → All IsCounted cover → AreGroups (bound_of i) (all_rows (work_of i texts)) (groups_in i)

-- the text that they come to is that of one pass over all rows of all sources
abbrev pub TableAnswers : Type 0
TableAnswers = (bytes text : List ℕ) (i : Input) (texts : List (List ℕ)) → IsInput bytes i → IsOf texts i → HasText i text → IsAnswer i.query.plan (all_records (work_of i texts)) text

-- it is the only one, whatever files they are
abbrev pub TablesAgree : Type 0
TablesAgree = (bytes others text other : List ℕ) (i j : Input) (texts : List (List ℕ)) → IsInput bytes i → IsInput others j → j.subject.words ≡ i.subject.words → header_of i.query.reading j.subject ≡ header_of i.query.reading i.subject
    → IsOf texts i → IsOf texts j → HasText i text → HasText j other → text ≡ other

-- the refused row that they have is the first one of all rows of all sources
abbrev pub RefusalIsFirst : Type 0
RefusalIsFirst = (bytes : List ℕ) (i : Input) (texts : List (List ℕ)) (row : FirstRefused) → IsInput bytes i → IsOf texts i → HasRefusedRow i row → IsFirstOfAll (work_of i texts) row

-- all of them as one file came about of the same sources
abbrev pub OneFileIsMade : Type 0
OneFileIsMade = (bytes : List ℕ) (i : Input) (texts : List (List ℕ)) (f : StateFile) → IsInput bytes i → All (IsMade (work_of i texts)) i.files → length (rows_in (work_of i texts) (stretches_of i.files)) < 2 ^ 64 → IsOneFile i f
    → IsMade (work_of i texts) f

-- the words of a file ask for one query
abbrev pub AskForOne : Type 0
AskForOne = (words : Words) (query other : Query) → AskFor words query → AskFor words other → query ≡ other

-- a source has these bytes
abbrev pub IsTextAt : List (List ℕ) → ℕ → List ℕ → Type 0
IsTextAt texts source text = get_or texts source [] ≡ text

-- what one reading of a whole source gives, by the plan that the words of its file ask for, came about of the sources of each input that has it
abbrev pub ReadingIsMade : Type 0
ReadingIsMade = (bytes : List ℕ) (i : Input) (texts : List (List ℕ)) (source : ℕ) (text : List ℕ) (query : Query) (header : List (List ℕ)) (f : StateFile) → IsInput bytes i → f.preface.subject ≡ i.subject
    → AskFor f.preface.subject.words query → records_in query.reading f.preface.subject.header ≡ header ∷ [] → IsReadOf query.plan query.reading header (whole_place source text) (map (exchanged query.reading.separator) text) f → IsTextAt texts source text → IsMade (work_of i texts) f

-- so did what one reading of a tile gives, after the header
abbrev pub TileReadingIsMade : Type 0
TileReadingIsMade = (bytes : List ℕ) (i : Input) (texts : List (List ℕ)) (p : Place) (before : List ℕ) (query : Query) (header : List (List ℕ)) (f : StateFile) → IsInput bytes i → f.preface.subject ≡ i.subject
    → AskFor f.preface.subject.words query → records_in query.reading f.preface.subject.header ≡ header ∷ [] → records_as query.reading before ≡ header ∷ [] → IsCut before → IsTile (work_of i texts) p
    → IsReadOf query.plan query.reading header p (with_header p.from before (bytes_at (work_of i texts) p)) f → IsMade (work_of i texts) f

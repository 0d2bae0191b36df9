-- What the bytes of an input are, and what they come to.
use Rattle.std.specs.Prelude.{◌≡◌, ◌<◌, ◌++◌, [], ℕ, List, All, None, length}
use Rattle.std.specs.FinMap as map
use Rattle.csv_rows.specs.Readings.{records_in}
use Rattle.par_model.specs.Named.{bound_plan, missing_name}
use Rattle.par_model.specs.Plan.{Plan}
use Rattle.partial_agg.specs.Groups.{GroupsByKey}
use Rattle.plan_spec.specs.Query.{Query}
use Rattle.state_combine.specs.Combined.{IsCombined}
use Rattle.partial_agg.specs.Listed.{listed}
use Rattle.result_text.specs.Text.{IsTextOf}
use Rattle.state_front.specs.Front.{IsFront, front_bytes}
use Rattle.state_head.specs.Head.{Preface, Subject, subject_of}
use Rattle.state_head.specs.Words.{Keys, keys_of}
use Rattle.state_load.specs.Loading.{AreParts, files_bytes, stretches_of, sum_of}
use Rattle.state_plan.specs.FilePlans.{AskFor, IsPlanOf, header_of}
use Rattle.state_ranges.specs.Sums.{AreRangeSums}
use Rattle.state_ranges.specs.declared.sums.RangeSums.{RangeSums}
use Rattle.state_total.specs.Total.{IsCounted, IsFirstRefused, IsWholeCover}
use Rattle.state_total.specs.declared.total.FirstRefused.{FirstRefused}
use Rattle.state_head.specs.declared.cover.Stretch.{Stretch}
use Rattle.state_whole.specs.Adding.{IsShapeOf}
use Rattle.state_whole.specs.Files.{StateFile, file_bytes}
use Rattle.state_whole.specs.Sums.{AreSummed}
use Rattle.state_whole.specs.declared.adding.Shape.{Shape}
use Rattle.state_query.specs.declared.input.Loaded.{Loaded}
use Rattle.state_query.specs.declared.input.Opened.{Opened}

-- files of one query: what all of them say alike, the query, what their tuples are of, the files
pub record Input : Type 0 where
  pub subject : Subject
  pub keys : Keys
  pub query : Query
  pub shape : Shape
  pub files : List StateFile

-- the plan over the columns of the header
abbrev pub bound_of : Input → Plan
bound_of i = bound_plan (header_of i.query.reading i.subject) i.query.plan

-- the groups of all files, added up
abbrev pub groups_in : Input → GroupsByKey
groups_in i = sum_of i.shape map.empty i.files

-- bytes are some files of one query
pub record IsInput (bytes : List ℕ) (i : Input) : Type 0 where
  pub some : 0 < length i.files
  pub ask_for : AskFor i.subject.words i.query
  pub one : length (records_in i.query.reading i.subject.header) ≡ 1
  pub whole : missing_name (header_of i.query.reading i.subject) i.query.plan ≡ None
  pub is_shape : IsShapeOf (bound_of i) i.shape
  pub are : AreParts i.shape i.subject i.keys i.files
  pub is : bytes ≡ files_bytes i.shape i.files

-- all files as one
abbrev pub IsOneFile : Input → StateFile → Type 0
IsOneFile i f = IsCombined i.shape i.subject i.keys (groups_in i) (stretches_of i.files) f

-- the files are all bytes of all sources, each once
pub record IsWhole (i : Input) (cover : List Stretch) : Type 0 where
  pub is_cover : IsWholeCover i.subject.sources (stretches_of i.files) cover

-- the text that they come to
pub record HasText (i : Input) (text : List ℕ) : Type 0 where
  pub cover : List Stretch
  pub is_whole : IsWhole i cover
  pub counted : All IsCounted cover
  pub is : IsTextOf i.query.plan (bound_of i) (listed (groups_in i)) text

-- bytes are those of one file, which is all files of an input as one
pub record AreOneFile (bytes file : List ℕ) : Type 0 where
  pub input : Input
  pub is_input : IsInput bytes input
  pub f : StateFile
  pub one : IsOneFile input f
  pub is : file ≡ file_bytes input.shape.kinds.now f

-- a text is that of the table that the files of an input come to
pub record IsTableOf (bytes text : List ℕ) : Type 0 where
  pub input : Input
  pub is_input : IsInput bytes input
  pub has_text : HasText input text

-- the first refused row of all
pub record HasRefusedRow (i : Input) (row : FirstRefused) : Type 0 where
  pub cover : List Stretch
  pub is_whole : IsWhole i cover
  pub first : IsFirstRefused cover row

-- bytes that begin with the front of a file that has this plan
pub record IsOpened (bytes : List ℕ) (opened : Opened) : Type 0 where
  pub front : Preface
  pub is_front : IsFront front
  pub rest : List ℕ
  pub begins : bytes ≡ front_bytes front ++ rest
  pub subject_is : front.subject ≡ subject_of opened.whole
  pub keys_are : front.keys ≡ keys_of opened.range
  pub is_plan : IsPlanOf (subject_of opened.whole) opened.plan

-- a range without ends
abbrev pub all_keys : Keys
all_keys = record { low = []; high = [] }

-- the sum of the files that some bytes are: those of their groups that lie in a range
pub record IsLoaded (within : Keys) (bytes : List ℕ) (loaded : Loaded) : Type 0 where
  pub input : Input
  pub is_input : IsInput bytes input
  pub subject_is : subject_of loaded.whole ≡ input.subject
  pub keys_are : keys_of loaded.range ≡ input.keys
  pub is_plan : IsPlanOf input.subject loaded.plan
  pub query_is : loaded.plan.plan ≡ input.query
  pub columns_are : loaded.sum.kept.columns ≡ length (bound_of input).groups
  pub within_is : keys_of loaded.sum.kept.range ≡ within
  pub sum_is : AreSummed (groups_in input) (stretches_of input.files) loaded.sum

-- the groups of the files that some bytes are, of which the first was opened, in the maps of their ranges
pub record IsInRanges (bytes : List ℕ) (opened : Opened) (sums : RangeSums) : Type 0 where
  pub input : Input
  pub is_input : IsInput bytes input
  pub subject_is : subject_of opened.whole ≡ input.subject
  pub is_plan : IsPlanOf input.subject opened.plan
  pub query_is : opened.plan.plan ≡ input.query
  pub sum_is : AreRangeSums (length (bound_of input).groups) (groups_in input) (stretches_of input.files) sums

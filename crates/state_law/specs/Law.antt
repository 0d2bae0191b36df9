-- What files of partial states come to: in whatever files or tiles the rows came, in whatever order and tree the files were put together.
use Rattle.std.specs.Prelude.{◌≡◌, ◌<◌, ◌≤◌, ◌^◌, ◌++◌, ◌∷◌, ℕ, zero, suc, List, [], All, length}
use Rattle.std.specs.FinMap as map
use Rattle.csv_rows.specs.Cuts.{IsCut}
use Rattle.csv_rows.specs.Readings.{IsSeparator, records_as, records_in}
use Rattle.par_model.specs.Outcome.{IsAnswer}
use Rattle.partial_agg.specs.Groups.{AreGroups}
use Rattle.partial_agg.specs.Listed.{listed}
use Rattle.result_text.specs.Text.{IsTextOf}
use Rattle.state_combine.specs.Combined.{IsCombined}
use Rattle.state_head.specs.Head.{Subject}
use Rattle.state_head.specs.Words.{Keys}
use Rattle.state_head.specs.declared.cover.Place.{Place}
use Rattle.state_head.specs.declared.cover.Stretch.{Stretch}
use Rattle.state_load.specs.Loading.{stretches_of, sum_of}
use Rattle.state_total.specs.Total.{IsCounted, IsFirstRefused, IsWholeCover}
use Rattle.state_total.specs.declared.total.FirstRefused.{FirstRefused}
use Rattle.state_whole.specs.Adding.{IsShapeOf}
use Rattle.state_whole.specs.Files.{StateFile, tuples_in}
use Rattle.state_whole.specs.declared.adding.Shape.{Shape}
use Rattle.state_law.specs.Sources.{IsTile, Work, all_records, all_rows, bytes_at, comma_text, plan_in, rows_in, rows_of, text_of, whole_place}
use Rattle.state_law.specs.Truth.{IsFirstOfAll, IsReadOf, IsTrueOf}

-- what is read of all bytes of a source is so
abbrev pub WholeIsTrue : Type 0
WholeIsTrue = (w : Work) (source : ℕ) (f : StateFile) → IsReadOf w.names w.reading w.header (whole_place source (text_of w source)) (comma_text w source) f → IsTrueOf w f

-- the bytes of a place, after a header if they are not the source's first
abbrev pub with_header : ℕ → List ℕ → List ℕ → List ℕ
with_header zero header bytes = bytes
with_header (suc from) header bytes = header ++ bytes

-- what is read of a tile is so
abbrev pub TileIsTrue : Type 0
TileIsTrue = (w : Work) (header : List ℕ) (p : Place) (f : StateFile) → records_as w.reading header ≡ w.header ∷ [] → IsCut header → IsTile w p → IsReadOf w.names w.reading w.header p (with_header p.from header (bytes_at w p)) f
    → IsTrueOf w f

-- a file of no stretch and no tuples says nothing that is not so
abbrev pub BlankIsTrue : Type 0
BlankIsTrue = (w : Work) (shape : Shape) (f : StateFile) → IsShapeOf (plan_in w) shape → f.preface.cover ≡ [] → tuples_in f ≡ [] → IsTrueOf w f

-- some files as one, by a shape of the query's plan
pub record IsOneOf (w : Work) (files : List StateFile) (f : StateFile) : Type 0 where
  pub shape : Shape
  pub is_shape : IsShapeOf (plan_in w) shape
  pub subject : Subject
  pub keys : Keys
  pub is : IsCombined shape subject keys (sum_of shape map.empty files) (stretches_of files) f

-- what files say that are so is so of them as one
abbrev pub CombinedIsTrue : Type 0
CombinedIsTrue = (w : Work) (files : List StateFile) (f : StateFile) → All (IsTrueOf w) files → length (rows_in w (stretches_of files)) < 2 ^ 64 → IsOneOf w files f → IsTrueOf w f

-- files that have all bytes of all sources show that each source begins with the header
abbrev pub SourcesAreHeaded : Type 0
SourcesAreHeaded = (w : Work) (files : List StateFile) (cover : List Stretch) → IsSeparator w.reading.separator → All (IsTrueOf w) files → IsWholeCover (length w.texts) (stretches_of files) cover → (k : ℕ) → k < length w.texts
    → records_in w.reading (text_of w k) ≡ w.header ∷ rows_of w.reading (text_of w k)

-- files have all bytes of all sources, each once, and no row of these is refused; this is the text of their groups
pub record ComeToText (w : Work) (files : List StateFile) (text : List ℕ) : Type 0 where
  pub shape : Shape
  pub is_shape : IsShapeOf (plan_in w) shape
  pub cover : List Stretch
  pub is_whole : IsWholeCover (length w.texts) (stretches_of files) cover
  pub counted : All IsCounted cover
  pub is : IsTextOf w.names (plan_in w) (listed (sum_of shape map.empty files)) text

-- files that have all bytes of all sources, each once, none of whose rows is refused, have the groups of all rows
abbrev pub SumIsAll : Type 0
SumIsAll = (w : Work) (shape : Shape) (files : List StateFile) (cover : List Stretch) → IsSeparator w.reading.separator → IsShapeOf (plan_in w) shape → All (IsTrueOf w) files → length (all_rows w) < 2 ^ 64 → IsWholeCover (length w.texts) (stretches_of files) cover → All IsCounted cover
    → AreGroups (plan_in w) (all_rows w) (sum_of shape map.empty files)

-- it is the text of one pass over all rows of all sources
abbrev pub TextAnswers : Type 0
TextAnswers = (w : Work) (files : List StateFile) (text : List ℕ) → IsSeparator w.reading.separator → All (IsTrueOf w) files → length (all_rows w) < 2 ^ 64 → length w.names.items ≤ 8 → ComeToText w files text → IsAnswer w.names (all_records w) text

-- so other files of the same sources, made and put together in another way, come to the same bytes
abbrev pub TextsAgree : Type 0
TextsAgree = (w : Work) (files others : List StateFile) (text other : List ℕ) → IsSeparator w.reading.separator → All (IsTrueOf w) files → All (IsTrueOf w) others → length (all_rows w) < 2 ^ 64 → length w.names.items ≤ 8
    → ComeToText w files text → ComeToText w others other → text ≡ other

-- files have all bytes of all sources, each once, and this row is the first refused one of their cover
pub record ComeToRow (w : Work) (files : List StateFile) (found : FirstRefused) : Type 0 where
  pub cover : List Stretch
  pub is_whole : IsWholeCover (length w.texts) (stretches_of files) cover
  pub first : IsFirstRefused cover found

-- it is the first refused one of all rows
abbrev pub RowIsFirst : Type 0
RowIsFirst = (w : Work) (files : List StateFile) (found : FirstRefused) → IsSeparator w.reading.separator → All (IsTrueOf w) files → ComeToRow w files found → IsFirstOfAll w found

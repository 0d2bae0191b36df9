-- What a file of partial states says of the rows of its sources, and that it is so.
use Rattle.std.specs.Prelude.{◌≡◌, ◌<◌, ◌∷◌, ℕ, List, [], All, length}
use Rattle.csv_rows.specs.Readings.{records_as}
use Rattle.csv_rows.specs.declared.cleaning.Reading.{Reading}
use Rattle.par_model.specs.Named.{NamedPlan, bound_plan}
use Rattle.par_model.specs.Plan.{Plan}
use Rattle.par_model.specs.Refuse.{refused_rows}
use Rattle.par_model.specs.declared.refusal.Refusal.{Refusal}
use Rattle.partial_agg.specs.Groups.{AreGroups, GroupsByKey}
use Rattle.partial_agg.specs.Listed.{listed}
use Rattle.row_blocks.specs.Blocks.{Table}
use Rattle.state_blocks.specs.Blocks.{Group}
use Rattle.state_head.specs.declared.cover.Place.{Place}
use Rattle.state_head.specs.declared.cover.RefusedRow.{RefusedRow}
use Rattle.state_head.specs.declared.cover.Rows.{Rows}
use Rattle.state_head.specs.declared.cover.Rows.TheVariants.{Counted, Refused}
use Rattle.state_head.specs.declared.cover.Stretch.{Stretch}
use Rattle.state_save.specs.Saving.{AreTuplesOf}
use Rattle.state_total.specs.Total.{IsCounted}
use Rattle.state_total.specs.declared.total.FirstRefused.{FirstRefused}
use Rattle.state_whole.specs.Adding.{IsShapeOf}
use Rattle.state_whole.specs.Files.{StateFile, tuples_in}
use Rattle.state_whole.specs.declared.adding.Shape.{Shape}
use Rattle.state_law.specs.Sources.{IsTile, Work, plan_in, rows_at, rows_in, rows_of, text_of, width_in}

-- of some rows this is the first refused one: its number, counted from 1, and why
pub record IsFirstRow (plan : Plan) (width : ℕ) (rows : Table) (why : RefusedRow) : Type 0 where
  pub others : List (ℕ × Refusal)
  pub is : refused_rows plan width rows ≡ (why.row, record { cause = why.cause; item = why.item }) ∷ others

-- rows are this many, and none is refused; or this is the first refused one
abbrev pub AreTold : Plan → ℕ → Table → Rows → Type 0
AreTold plan width rows (Counted many) = (many ≡ length rows) × (refused_rows plan width rows ≡ [])
AreTold plan width rows (Refused why) = IsFirstRow plan width rows why

-- tuples are those of the groups of some rows, in the order of the table
pub record AreRowTuples (plan : Plan) (rows : Table) (tuples : List Group) : Type 0 where
  pub shape : Shape
  pub is_shape : IsShapeOf plan shape
  pub groups : GroupsByKey
  pub are_groups : AreGroups plan rows groups
  pub are : AreTuplesOf shape (listed groups) tuples

-- ---- of bytes that were read by themselves

-- the tuples beside what is said of some rows: those of their groups, or none if a row is refused
abbrev pub AreTuplesBeside : Plan → Table → Rows → List Group → Type 0
AreTuplesBeside plan rows (Counted many) tuples = AreRowTuples plan rows tuples
AreTuplesBeside plan rows (Refused why) tuples = tuples ≡ []

-- a file is what some text with commas comes to, of which the first record is the header, as that at a place of a source
pub record IsReadOf (names : NamedPlan) (reading : Reading) (header : List (List ℕ)) (p : Place) (bytes : List ℕ) (f : StateFile) : Type 0 where
  pub rows : Table
  pub records : records_as reading bytes ≡ header ∷ rows
  pub told : Rows
  pub cover : f.preface.cover ≡ record { place = p; rows = told } ∷ []
  pub are_told : AreTold (bound_plan header names) (length header) rows told
  pub tuples : AreTuplesBeside (bound_plan header names) rows told (tuples_in f)

-- ---- of the sources

-- a stretch is of bytes that can be read by themselves, and what it says of their rows is so
pub record IsTrue (w : Work) (s : Stretch) : Type 0 where
  pub is_tile : IsTile w s.place
  pub are_told : AreTold (plan_in w) (width_in w) (rows_at w s.place) s.rows

-- all that a file says is so: each stretch, and the tuples, which are those of the groups of all its rows, or none if one is refused
pub record IsTrueOf (w : Work) (f : StateFile) : Type 0 where
  pub each : All (IsTrue w) f.preface.cover
  pub counted : All IsCounted f.preface.cover → AreRowTuples (plan_in w) (rows_in w f.preface.cover) (tuples_in f)
  pub refused : (All IsCounted f.preface.cover → ⊥) → tuples_in f ≡ []

-- this row of this source is the first refused one of all: no row of a source before is refused
pub record IsFirstOfAll (w : Work) (found : FirstRefused) : Type 0 where
  pub source : found.source < length w.texts
  pub before : (k : ℕ) → k < found.source → refused_rows (plan_in w) (width_in w) (rows_of w.reading (text_of w k)) ≡ []
  pub first : IsFirstRow (plan_in w) (width_in w) (rows_of w.reading (text_of w found.source)) found.why

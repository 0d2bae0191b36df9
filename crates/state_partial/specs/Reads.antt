-- What was read of a source, whole.
use Rattle.std.specs.Prelude.{◌≡◌, ◌≤◌, ◌^◌, ◌∷◌, ℕ, List, [], All, IfSome, Option, length}
use Rattle.std.specs.FinMap as map
use Rattle.csv_rows.specs.Readings.{records_as, records_in}
use Rattle.par_model.specs.Named.{bound_plan}
use Rattle.par_model.specs.Refuse.{refused_rows}
use Rattle.partial_agg.specs.Groups.{AreGroups, GroupsByKey}
use Rattle.partial_agg.specs.Rows.{IsAccepted}
use Rattle.plan_spec.specs.Query.{Query}
use Rattle.row_blocks.specs.Blocks.{Table}
use Rattle.state_head.specs.declared.cover.RefusedRow.{RefusedRow}
use Rattle.state_head.specs.declared.cover.Rows.{Rows}
use Rattle.state_head.specs.declared.cover.Rows.TheVariants.{Counted, Refused}
use Rattle.state_law.specs.Truth.{IsFirstRow}
use Rattle.state_partial.specs.declared.reading.Part.{Part}

-- all rows are counted, and these are their groups; if the source tells what it had left, they are its rows
pub record AreCounted (query : Query) (header : List (List ℕ)) (from : Option (List ℕ)) (many : ℕ) (groups : GroupsByKey) : Type 0 where
  pub rows : Table
  pub counted : many ≡ length rows
  pub few : length rows ≤ 2 ^ 50
  pub accepted : All (IsAccepted (bound_plan header query.plan) (length header)) rows
  pub none : refused_rows (bound_plan header query.plan) (length header) rows ≡ []
  pub are : AreGroups (bound_plan header query.plan) rows groups
  pub all : IfSome from (λ bytes. records_as query.reading bytes ≡ header ∷ rows)

-- this is the first refused row of some bytes
pub record RefuseFirst (query : Query) (header : List (List ℕ)) (why : RefusedRow) (bytes : List ℕ) : Type 0 where
  pub rows : Table
  pub are : records_as query.reading bytes ≡ header ∷ rows
  pub first : IsFirstRow (bound_plan header query.plan) (length header) rows why

-- there are no groups; if the source tells what it had left, this is its first refused row
pub record AreRefused (query : Query) (header : List (List ℕ)) (from : Option (List ℕ)) (why : RefusedRow) (groups : GroupsByKey) : Type 0 where
  pub none : groups ≡ map.empty
  pub first : IfSome from (RefuseFirst query header why)

abbrev pub AreRowsOf : Query → List (List ℕ) → Option (List ℕ) → Rows → GroupsByKey → Type 0
AreRowsOf query header from (Counted many) groups = AreCounted query header from many groups
AreRowsOf query header from (Refused why) groups = AreRefused query header from why groups

-- what a source of text with commas comes to: its header, which is one record of the bytes in the input, its rows, and its size, if it
-- tells what it had left
pub record IsPartRead (query : Query) (from : Option (List ℕ)) (p : Part) : Type 0 where
  pub header : List (List ℕ)
  pub one : records_in query.reading p.header.items ≡ header ∷ []
  pub are : AreRowsOf query header from p.rows p.map
  pub size : IfSome from (λ bytes. p.size ≡ length bytes)

-- The good rows of the bytes of an input.
use Rattle.std.specs.Prelude.{◌≡◌, ◌<◌, ◌≤◌, ◌++◌, ◌⊎◌, [], ◌∷◌, ℕ, List, None, Option, IfSome, length}
use Rattle.par_model.specs.Named.{bound_plan}
use Rattle.par_model.specs.Refuse.{refused_rows}
use Rattle.par_model.specs.declared.refusal.Refusal.{Refusal}
use Rattle.plan_spec.specs.Query.{Query}
use Rattle.row_blocks.specs.Blocks.{Table}
use Rattle.row_windows.specs.Seams.{IsLong}
use Rattle.good_rows.specs.Good.{good_rows}
use Rattle.stream_groups.specs.Stops.{Tells}
use Rattle.stream_groups.specs.Ways.{Way}
use Rattle.stream_groups.specs.declared.stop.RefusedRow.{RefusedRow}
use Rattle.stream_groups.specs.declared.stop.Stop.{Stop}
use Rattle.stream_groups.specs.declared.stop.Stop.TheVariants as stop
use Rattle.good_groups.specs.declared.reading.LeftOut.{LeftOut}

-- the header of some records, and the rows that a query does not refuse
abbrev pub good_records : Query → Table → Table
good_records query [] = []
good_records query (header ∷ rows) = header ∷ good_rows (bound_plan header query.plan) (length header) rows

-- the rows that it refuses
abbrev pub refused_records : Query → Table → List (ℕ × Refusal)
refused_records query [] = []
refused_records query (header ∷ rows) = refused_rows (bound_plan header query.plan) (length header) rows

-- a way to read, of which the refused rows are left out
abbrev pub good_way : Way → Query → Way
good_way way query = record { text = way.text; records = λ bytes. good_records query (way.records bytes) }

-- what was left out: no row, or some rows, at most this many, and of the first of them it is told why
pub record IsLeftOut (way : Way) (query : Query) (most : ℕ) (from : Option (List ℕ)) (out : Option LeftOut) : Type 0 where
  pub none : out ≡ None → IfSome from (λ bytes. refused_records query (way.records bytes) ≡ [])
  pub some : IfSome out (λ o. (0 < o.count) × (o.count ≤ most) × Tells way query from (stop.Refused o.first) × IfSome from (λ bytes. length (refused_records query (way.records bytes)) ≡ o.count))

-- After some records of bytes, of which at most this many are refused, begins a record of more bytes than a record may have:
-- from some place on they have the other records, and begin with some whose text is too long and cannot be cut
pub record HasLongAfter (way : Way) (query : Query) (most : ℕ) (bytes : List ℕ) : Type 0 where
  pub front : List ℕ
  pub begun : List ℕ
  pub back : List ℕ
  pub are : bytes ≡ front ++ (begun ++ back)
  pub before : Table
  pub parts : way.records bytes ≡ before ++ way.records (begun ++ back)
  pub few : length (refused_records query before) ≤ most
  pub long : IsLong (way.text begun)

-- bytes have no table of the good rows: more rows than this are refused, or a record is too long
abbrev pub HasNoTable : Way → Query → ℕ → List ℕ → Type 0
HasNoTable way query most bytes = (most < length (refused_records query (way.records bytes))) ⊎ HasLongAfter way query most bytes

-- a reason names a row only if there is none
abbrev pub NamesIfNone : Way → Query → ℕ → Option (List ℕ) → Stop → Type 0
NamesIfNone way query most from why = (first : RefusedRow) → why ≡ stop.Refused first → IfSome from (HasNoTable way query most)

-- What was counted of the rows of a source.
use Rattle.std.specs.Prelude.{◌≡◌, ◌<◌, ◌≤◌, ◌++◌, ◌^◌, ◌∷◌, [], ℕ, List, None, Option, Some, IfSome, length}
use Rattle.csv_rows.specs.Cuts.{IsCut}
use Rattle.csv_rows.specs.Readings.{records_as}
use Rattle.par_model.specs.Plan.{Plan}
use Rattle.par_model.specs.Refuse.{refused_rows}
use Rattle.row_blocks.specs.Blocks.{Table}
use Rattle.row_windows.specs.Stretch.{Stretch}
use Rattle.stream_groups.specs.Reading.{Begins, HasPart, IsBound}
use Rattle.par_model.specs.declared.refusal.Refusal.{Refusal}
use Rattle.stream_groups.specs.Stops.{AreOfRow, Tells}
use Rattle.stream_groups.specs.Ways.{of_text}
use Rattle.stream_groups.specs.declared.stop.RefusedRow.{RefusedRow}
use Rattle.stream_groups.specs.declared.stop.Stop.TheVariants as stop
use Rattle.good_groups.specs.Good.{refused_records}
use Rattle.good_groups.specs.Opened.{Opened}
use Rattle.good_groups.specs.declared.sifter.Rules.{Rules}
use Rattle.good_groups.specs.declared.tally.Tally.{Tally}

-- lines are judged by a query over a header, which has its columns, each once
pub record AreRules (o : Opened) (r : Rules) : Type 0 where
  pub query : r.plan.now ≡ o.query
  pub most : r.most ≡ o.most
  pub width : r.width ≡ length o.header
  pub bound : IsBound o.query o.header r.bound.now
  pub one : records_as o.query.reading r.header.now ≡ o.header ∷ []

-- the first row that is refused: none so far, or it is so told
abbrev pub IsFirst : Opened → Plan → Table → Option RefusedRow → Type 0
IsFirst o bound rows None = refused_rows bound (length o.header) rows ≡ []
IsFirst o bound rows (Some r) = Tells (of_text o.query.reading) o.query o.from (stop.Refused r)

-- these rows were counted, and those that are refused were left out
pub record HasCounted (o : Opened) (bound : Plan) (t : Tally) (rows : Table) : Type 0 where
  pub number : t.rows ≡ length rows
  pub few : t.rows ≤ 2 ^ 50
  pub count : t.count ≡ length (refused_rows bound (length o.header) rows)
  pub most : t.count ≤ o.most
  pub first : IsFirst o bound rows t.first

-- a line as a window of its own, under the header
abbrev pub line_stretch : Rules → List ℕ → Stretch
line_stretch r line = record { reading = r.plan.now.reading; header = r.header.now; lines = line; rest = [] }

-- a line comes after these rows and this many line feeds, and is one of the bytes of the source; the header's line ends outside
-- quotes
pub record IsNext (o : Opened) (left : Option (List ℕ)) (r : Rules) (feeds : ℕ) (rows : Table) (line rest : List ℕ) : Type 0 where
  pub part : HasPart o.query.reading o.from left (o.header ∷ rows) feeds (line_stretch r line ∷ []) rest
  pub begins : Begins o.query.reading o.from (o.header ∷ (rows ++ records_as o.query.reading line))
  pub cut : IsCut r.header.now

-- the row of a line, if it has one, was counted after others
abbrev pub Counts : Rules → List ℕ → Tally → Tally → Type 0
Counts r line old new = (o : Opened) (left : Option (List ℕ)) (rows : Table) (rest : List ℕ) → AreRules o r → IsNext o left r old.feeds rows line rest → HasCounted o r.bound.now old rows
    → HasCounted o r.bound.now new (rows ++ records_as o.query.reading line)

-- or it was not, and only the first row that is refused may be known now
abbrev pub CountsNot : Rules → List ℕ → Tally → Tally → Type 0
CountsNot r line old new = (o : Opened) (left : Option (List ℕ)) (rows : Table) (rest : List ℕ) → AreRules o r → IsNext o left r old.feeds rows line rest → HasCounted o r.bound.now old rows → HasCounted o r.bound.now new rows

-- more rows of the source are refused than may be left out, if it tells what it had left
abbrev pub HasTooMany : Opened → Type 0
HasTooMany o = IfSome o.from (λ bytes. o.most < length (refused_records o.query (records_as o.query.reading bytes)))

-- with the row of a line, which comes after those that were counted, there are this many
abbrev pub IsOneTooMany : Rules → List ℕ → Tally → Type 0
IsOneTooMany r line old = (o : Opened) (left : Option (List ℕ)) (rows : Table) (rest : List ℕ) → AreRules o r → IsNext o left r old.feeds rows line rest → HasCounted o r.bound.now old rows → HasTooMany o

-- the row of a line is refused so, has this number, and is so told
abbrev pub AreOfLine : Rules → List ℕ → ℕ → ℕ → Refusal → RefusedRow → Type 0
AreOfLine r line row feeds why told = IsCut r.header.now → AreOfRow r.plan.now.reading r.plan.now.plan r.bound.now (line_stretch r line ∷ []) row 1 feeds why told

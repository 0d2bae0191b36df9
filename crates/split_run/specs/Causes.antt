-- What an answer on the rows of a table, or of pieces of one, says of them.
use Rattle.std.specs.Prelude.{◌≡◌, ◌<◌, ◌≤◌, ◌-◌, ◌^◌, ◌∷◌, ℕ, List, All, IfSome, Some, ⊤, length, take, drop}
use Rattle.csv_rows.specs.Records.{record_at}
use Rattle.par_model.specs.Plan.{Plan}
use Rattle.par_model.specs.Refuse.{refusal}
use Rattle.par_model.specs.declared.refusal.Refusal.{Refusal}
use Rattle.row_blocks.specs.Blocks.{Table}
use Rattle.row_windows.specs.Stretch.{Stretch}
use Rattle.partial_agg.specs.Rows.{IsAccepted, header_width}
use Rattle.partial_agg.specs.declared.map.BlockAnswer.{BlockAnswer}
use Rattle.partial_agg.specs.declared.map.BlockAnswer.TheVariants as answer
use Rattle.split_run.specs.Pieces.{AreUnder, piece_records, piece_rows, rows_of}
use Rattle.split_run.specs.declared.hands.Hand.{Hand}

-- a row of a table is refused for this cause
pub record IsRefused (plan : Plan) (records : Table) (row : ℕ) (why : Refusal) : Type 0 where
  pub first : 1 ≤ row
  pub within : row < length records
  pub cause_is : refusal plan (header_width records) (record_at records row) ≡ Some why

-- and none before it is refused
pub record IsFirstRefused (plan : Plan) (records : Table) (row : ℕ) (why : Refusal) : Type 0 where
  pub refused : IsRefused plan records row why
  pub before : All (IsAccepted plan (header_width records)) (take (row - 1) (drop 1 records))

-- an answer that names a row is given only if some row of a table is refused; out of memory says nothing
abbrev pub IsCause : Plan → Table → BlockAnswer → Type 0
IsCause plan records (answer.Row row cause item) = All (IsAccepted plan (header_width records)) (drop 1 records) → ⊥
IsCause plan records answer.Memory = ⊤

-- no row of some pieces is refused
abbrev pub AllAccepted : Plan → List Stretch → Type 0
AllAccepted plan pieces = All (λ piece. All (IsAccepted plan (header_width (piece_records piece))) (piece_rows piece)) pieces

-- an answer that names a row is given only if some row of some pieces is refused
abbrev pub SomeRefused : Plan → List Stretch → BlockAnswer → Type 0
SomeRefused plan pieces (answer.Row row cause item) = AllAccepted plan pieces → ⊥
SomeRefused plan pieces answer.Memory = ⊤

-- an answer that names a row names the first that is refused
abbrev pub IsFirstCause : Plan → Table → BlockAnswer → Type 0
IsFirstCause plan records (answer.Row row cause item) = IsFirstRefused plan records row (record { cause = cause; item = item })
IsFirstCause plan records answer.Memory = ⊤

-- likewise of the rows of pieces with one header, numbered over all of them
abbrev pub IsFirstOfAll : Plan → List Stretch → BlockAnswer → Type 0
IsFirstOfAll plan pieces why = (header : List (List ℕ)) → AreUnder header pieces → IsFirstCause plan (header ∷ rows_of pieces) why

-- an answer is what each of some participants would give of any pieces, if it stopped
abbrev pub IsCauseOfAll : List Hand → BlockAnswer → Type 0
IsCauseOfAll hands why = (plan : Plan) (pieces : List Stretch) → All (λ (h : Hand). IfSome h.stopped (SomeRefused plan pieces)) hands → SomeRefused plan pieces why

-- the number of a row that is named is far below the largest
abbrev pub IsLow : BlockAnswer → Type 0
IsLow (answer.Row row cause item) = row < 2 ^ 56
IsLow answer.Memory = ⊤

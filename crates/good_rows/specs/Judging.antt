-- What a line of a table is.
use Rattle.std.specs.Prelude.{◌≡◌, ◌++◌, ◌∷◌, [], ℕ, List, None, Some, Bool, drop, take}
use Rattle.csv_rows.specs.Readings.{records_as}
use Rattle.csv_rows.specs.declared.cleaning.Reading.{Reading}
use Rattle.csv_rows.specs.declared.place.Place.{Place}
use Rattle.par_model.specs.Plan.{Plan}
use Rattle.par_model.specs.Refuse.{refusal}
use Rattle.good_rows.specs.Lines.{IsBegun, left_of}
use Rattle.good_rows.specs.declared.rating.Judged.{Judged}
use Rattle.good_rows.specs.declared.rating.Judged.TheVariants as judged

-- a line has no record; or one, which is a row that is not refused, or is refused for this cause
abbrev pub IsJudged : Reading → Plan → ℕ → List ℕ → Judged → Type 0
IsJudged reading plan width line judged.Nothing = records_as reading line ≡ []
IsJudged reading plan width line judged.Good = (row : List (List ℕ)) × (records_as reading line ≡ row ∷ []) × (refusal plan width row ≡ None)
IsJudged reading plan width line (judged.Refused why) = (row : List (List ℕ)) × (records_as reading line ≡ row ∷ []) × (refusal plan width row ≡ Some why)

-- this many of some bytes, which a scan reaches at one place and leaves at another, go on with a line
pub record GoesOn (start : Place) (bytes : List ℕ) (at : ℕ) (p : Place) : Type 0 where
  pub left : (keeps : List ℕ → Bool) (line rest : List ℕ) → left_of keeps start line (bytes ++ rest) ≡ left_of keeps p (line ++ take at bytes) (drop at bytes ++ rest)
  pub begun : (line : List ℕ) → IsBegun line start → IsBegun (line ++ take at bytes) p

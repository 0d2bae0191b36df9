-- What a query over some records comes to: the first fault that holds, or the table.
use Rattle.std.specs.Prelude.{◌≡◌, ℕ, List, [], ◌∷◌, Option, Some, None, if◌then◌else◌, length, nat_lt}
use Rattle.par_model.specs.Named.{NamedPlan, bound_plan, missing_name}
use Rattle.par_model.specs.Refuse.{refused_rows}
use Rattle.par_model.specs.Table.{IsTable, table_text}
use Rattle.par_model.specs.declared.refusal.Refusal.{Refusal}

-- the most bytes that an input has
abbrev pub most_bytes : ℕ
most_bytes = 67108864

-- the most rows that it has besides the header
abbrev pub most_rows : ℕ
most_rows = 4194304

-- the words are no plan; the input is too long; it has no record; it has too many rows; the header lacks this name, the
-- first of the plan that it lacks; these rows are refused, each with its number and its cause; there is a table
pub data Outcome : Type 0 where
  Usage : Outcome
  TooManyBytes : Outcome
  NoHeader : Outcome
  TooManyRows : Outcome
  NoColumn : List ℕ → Outcome
  Refused : List (ℕ × Refusal) → Outcome
  Table : Outcome

-- the outcome of rows of which these are refused
abbrev pub by_refused : List (ℕ × Refusal) → Outcome
by_refused [] = Table
by_refused (r ∷ rs) = Refused (r ∷ rs)

-- the outcome of rows under a header that lacks this name of the plan, or none
abbrev pub by_missing : NamedPlan → List (List ℕ) → List (List (List ℕ)) → Option (List ℕ) → Outcome
by_missing plan header rows (Some name) = NoColumn name
by_missing plan header rows None = by_refused (refused_rows (bound_plan header plan) (length header) rows)

-- the outcome of records, of which the first is the header
abbrev pub by_records : NamedPlan → List (List (List ℕ)) → Outcome
by_records plan [] = NoHeader
by_records plan (header ∷ rows) = if nat_lt most_rows (length rows) then TooManyRows else by_missing plan header rows (missing_name header plan)

-- the outcome of a plan, or of words that are none, over this many bytes, which are these records
unfoldable pub outcome : Option NamedPlan → ℕ → List (List (List ℕ)) → Outcome
outcome None size records = Usage
outcome (Some plan) size records = if nat_lt most_bytes size then TooManyBytes else by_records plan records

-- a text is that of the table of a plan over records; without a header there is none
unfoldable pub IsAnswer : NamedPlan → List (List (List ℕ)) → List ℕ → Type 0
IsAnswer plan [] text = ⊥
IsAnswer plan (header ∷ rows) text = (table : List (List (List ℕ))) × IsTable plan (bound_plan header plan) rows table × (text ≡ table_text table)

-- What a query over a table of any length comes to, and what no answer can be over.
use Rattle.std.specs.Prelude.{◌≡◌, ◌⊎◌, ◌++◌, [], ◌∷◌, ℕ, List, length}
use Rattle.row_blocks.specs.Blocks.{Table as Records}
use Rattle.par_model.specs.Named.{NamedPlan, missing_name}
use Rattle.par_model.specs.Outcome.{Outcome, NoHeader, Table, by_missing}
use Rattle.row_windows.specs.Seams.{IsLong}
use Rattle.stream_groups.specs.Ways.{Way}

-- of a plan over some records, of which the first is the header
abbrev pub outcome : NamedPlan → Records → Outcome
outcome plan [] = NoHeader
outcome plan (header ∷ rows) = by_missing plan header rows (missing_name header plan)

-- of a plan over bytes that are read so
abbrev pub outcome_over : Way → NamedPlan → List ℕ → Outcome
outcome_over way plan bytes = outcome plan (way.records bytes)

-- After this many records of some bytes begins a record of more bytes than a record may have: from some place on they
-- have the other records, and begin with some whose text is too long and cannot be cut. The records before it, if there
-- are any, come to a table of the plan: the header has its columns, and no row is refused
pub record HasLong (way : Way) (plan : NamedPlan) (bytes : List ℕ) (row : ℕ) : Type 0 where
  pub front : List ℕ
  pub begun : List ℕ
  pub back : List ℕ
  pub are : bytes ≡ front ++ (begun ++ back)
  pub before : Records
  pub number : length before ≡ row
  pub parts : way.records bytes ≡ before ++ way.records (begun ++ back)
  pub long : IsLong (way.text begun)
  pub whole : (before ≡ []) ⊎ (outcome plan before ≡ Table)

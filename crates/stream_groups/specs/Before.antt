-- What was read of a source before a read failed.
use Rattle.std.specs.Prelude.{◌≡◌, ◌≤◌, ◌+◌, ◌++◌, ◌⊎◌, [], ℕ, List, None, Option, Some, length, ⊤}
use Rattle.csv_rows.specs.Records.{record_at}
use Rattle.par_model.specs.Named.{bound_plan}
use Rattle.par_model.specs.Outcome.{Table}
use Rattle.plan_spec.specs.Query.{Query}
use Rattle.row_windows.specs.Stretch.{Fills}
use Rattle.row_windows.specs.declared.window.TheConstants.{MOST_RECORD_BYTES}
use Rattle.stream_groups.specs.Outcome.{outcome_over}
use Rattle.stream_groups.specs.Twice.{twice_of}
use Rattle.stream_groups.specs.Ways.{Way, of_bytes}

-- a batch of this many bytes, and a record with a byte more
abbrev pub most_of_batch : ℕ → ℕ
most_of_batch size = size + (MOST_RECORD_BYTES + 1)

-- the records of some bytes come to a table of a query, and the header has no column of it twice
pub record ComesToTable (way : Way) (query : Query) (bytes : List ℕ) : Type 0 where
  pub has_table : outcome_over way query.plan bytes ≡ Table
  pub once : twice_of (bound_plan (record_at (way.records bytes) 0) query.plan) (record_at (way.records bytes) 0) ≡ None

-- Of a source that had some bytes and now has others left, all that was read but for this many bytes at most is a front that
-- has no record, or comes to a table; the records of all bytes are those of the front and those of what comes after it
pub record IsReadBefore (way : Way) (query : Query) (bytes left : List ℕ) (most : ℕ) : Type 0 where
  pub front : List ℕ
  pub back : List ℕ
  pub are : bytes ≡ front ++ back
  pub few : length back ≤ length left + most
  pub parts : way.records bytes ≡ way.records front ++ way.records back
  pub whole : (way.records front ≡ []) ⊎ ComesToTable way query front

-- likewise if the source tells what it had left
abbrev pub ReadBefore : Way → Query → Option (List ℕ) → Option (List ℕ) → ℕ → Type 0
ReadBefore way query None left most = ⊤
ReadBefore way query (Some bytes) None most = ⊥
ReadBefore way query (Some bytes) (Some left) most = IsReadBefore way query bytes left most

-- a query is asked for, and this is so of what was read for it, in batches of this many bytes, before a read failed
abbrev pub ReadBeforeOf : Option Query → Option (List ℕ) → Option (List ℕ) → ℕ → Type 0
ReadBeforeOf asked old new size = (query : Query) × (asked ≡ Some query) × ReadBefore (of_bytes query.reading) query old new (most_of_batch size)

-- what there was before a batch, and what was read for it before a read failed, is lost: at most this many bytes
pub record IsLostBatch (old new : Option (List ℕ)) (rest : List ℕ) (most : ℕ) : Type 0 where
  pub text : List ℕ
  pub reads : Fills old new rest text
  pub few : length text ≤ most

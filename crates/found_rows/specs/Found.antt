-- What a scan has found of the records of a text, and what is left of them.
use Rattle.std.specs.Prelude.{◌≡◌, ◌≤◌, ◌<◌, ◌∷◌, ℕ, List, drop, length}
use Rattle.csv.specs.Reading.{default_config, records}
use Rattle.csv_rows.specs.Plain.{NoReturn}
use Rattle.found_rows.specs.Masks.{IsBlock}
use Rattle.found_rows.specs.Spans.{AreSpans, fields_in}
use Rattle.found_rows.specs.declared.block.Block.{Block}
use Rattle.found_rows.specs.declared.spans.Spans.{Spans}

-- the record that was found last, and those that come after it
pub record Seen : Type 0 where
  pub row : List (List ℕ)
  pub left : List (List (List ℕ))

-- the records of a text from a place on
abbrev pub records_from : List ℕ → ℕ → List (List (List ℕ))
records_from text from = records default_config (drop from text)

-- what a scan has found that is at a place of a text
abbrev pub seen : List ℕ → ℕ → Spans → Seen
seen text from spans = record { row = fields_in text spans; left = records_from text from }

-- the text has no carriage returns, the block at hand does not begin after the scan's place, and the places are those of fields
pub record IsScan (text : List ℕ) (from : ℕ) (b : Block) (s : Spans) : Type 0 where
  pub within : from ≤ length text
  pub lines : NoReturn text
  pub block : IsBlock text b
  pub reached : b.base ≤ from
  pub spans : AreSpans text s

-- the first of some records has more fields than are given
pub record BeginsWide (table : List (List (List ℕ))) : Type 0 where
  pub first : List (List ℕ)
  pub others : List (List (List ℕ))
  pub are : table ≡ first ∷ others
  pub wide : 64 < length first

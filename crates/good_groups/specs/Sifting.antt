-- A text of which some lines are left out.
use Rattle.std.specs.Prelude.{◌≡◌, ◌<◌, ◌≤◌, ◌^◌, ◌∷◌, ℕ, Bool, List, None, Option, Some, false, if◌then◌else◌, is_some, length, option_map, true, ⊤}
use Rattle.std.specs.Io.KnownBytes.{IsAtEnd, Keeps, prepend_known}
use Rattle.csv_rows.specs.Cuts.{IsCut}
use Rattle.csv_rows.specs.Readings.{records_as}
use Rattle.good_rows.specs.Good.{has_good}
use Rattle.good_rows.specs.Lines.{IsBegun, left_of}
use Rattle.par_model.specs.Columns.{HasColumns}
use Rattle.row_blocks.specs.Blocks.{Table}
use Rattle.row_windows.specs.declared.window.TheConstants.{MOST_RECORD_BYTES}
use Rattle.stream_groups.specs.Reading.{HasAll, HasRead}
use Rattle.good_groups.specs.Counted.{AreRules, HasCounted, HasTooMany}
use Rattle.good_groups.specs.Opened.{Opened}
use Rattle.good_groups.specs.declared.sifter.Halt.{Halt}
use Rattle.good_groups.specs.declared.sifter.Halt.TheVariants as halt
use Rattle.good_groups.specs.declared.sifter.Rules.{Rules}
use Rattle.good_groups.specs.declared.sifter.Sifter.{Sifter}
use Rattle.good_groups.specs.declared.sieve.Sifting.{Sifting}

-- whether a line is kept
abbrev pub keeps : Rules → List ℕ → Bool
keeps r = has_good r.plan.now.reading r.bound.now r.width

-- what is left of the line at hand and of all that comes after it
abbrev pub rest_left : Rules → Sifter → List ℕ → List ℕ
rest_left r s rest = left_of (keeps r) s.place s.line.items rest

-- what is left, if a source has this left
abbrev pub sifter_left : Rules → Option (List ℕ) → Sifter → Option (List ℕ)
sifter_left r left s = prepend_known s.ahead (option_map (rest_left r s) (prepend_known s.pending left))

abbrev pub sifting_left : Rules → Option (List ℕ) → Sifting → Option (List ℕ)
sifting_left r left s = if s.is_done then prepend_known s.sifter.ahead left else sifter_left r left s.sifter

-- lines can be judged, and the line at hand is one
pub record IsReady (r : Rules) (s : Sifter) : Type 0 where
  pub columns : HasColumns r.bound.now r.width
  pub header : length (records_as r.plan.now.reading r.header.now) ≡ 1
  pub begun : IsBegun s.line.items s.place
  pub few : s.tally.feeds ≤ 2 ^ 60

-- the rows of the lines before the one at hand were counted, and the header's line ends outside quotes
pub record IsOpen (o : Opened) (left : Option (List ℕ)) (r : Rules) (s : Sifter) : Type 0 where
  pub rows : Table
  pub counted : HasCounted o r.bound.now s.tally rows
  pub begun : IsBegun s.line.items s.place
  pub cut : IsCut r.header.now
  pub few : s.tally.feeds ≤ 2 ^ 60
  pub read : HasRead o.query.reading o.from (prepend_known s.pending left) (o.header ∷ rows) s.tally.feeds s.line.items

-- some bytes were sifted: what is left is the same, and what was counted is told of more rows
pub record Sifts (r : Rules) (a b : Sifter) : Type 0 where
  pub left : (left : Option (List ℕ)) → sifter_left r left a ≡ sifter_left r left b
  pub counts : (o : Opened) (left : Option (List ℕ)) → AreRules o r → IsOpen o left r a → IsOpen o left r b

-- all rows were
pub record IsDone (o : Opened) (left : Option (List ℕ)) (r : Rules) (s : Sifter) : Type 0 where
  pub rows : Table
  pub counted : HasCounted o r.bound.now s.tally rows
  pub all : HasAll o.query.reading o.from (o.header ∷ rows)
  pub end : IsAtEnd left

-- why it goes no further
abbrev pub IsHalted : Opened → Option Halt → Sifting → Type 0
IsHalted o None s = s.lacks ≡ 0
IsHalted o (Some halt.TooMany) s = (is_some s.sifter.tally.first ≡ true) × HasTooMany o
IsHalted o (Some halt.Long) s = (s.is_done ≡ false) × (MOST_RECORD_BYTES < length s.sifter.line.items)
IsHalted o (Some halt.Memory) s = ⊤

pub record IsSifting (o : Opened) (left : Option (List ℕ)) (r : Rules) (s : Sifting) : Type 0 where
  pub going : s.is_done ≡ false → IsOpen o left r s.sifter
  pub done : s.is_done ≡ true → IsDone o left r s.sifter
  pub halted : IsHalted o s.halt s

-- a piece more was sifted, or the source is at its end, or it goes no further: what is left is the same, and it is one still
pub record GoesOn (o : Opened) (r : Rules) (old new : Option (List ℕ)) (a b : Sifting) : Type 0 where
  pub keeps : Keeps (sifting_left r old a) (sifting_left r new b)
  pub is : IsSifting o old r a → IsSifting o new r b

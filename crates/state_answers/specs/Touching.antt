-- A table in ranges that touch, each made by another call of `finalize`, maybe on another machine, of whatever files came about of the
-- sources.
use Rattle.std.specs.Prelude.{◌≡◌, ◌++◌, ◌∷◌, ℕ, List, [], length}
use Rattle.std.specs.List.{AllZip, concat}
use Rattle.par_model.specs.Named.{bound_plan}
use Rattle.par_model.specs.Outcome.{IsAnswer}
use Rattle.state_law.specs.Sources.{all_records}
use Rattle.state_plan.specs.FilePlans.{header_of}
use Rattle.state_query.specs.Inputs.{IsTableOf}
use Rattle.state_query.specs.Ranges.{IsEndOf, IsRangeText}
use Rattle.state_range.specs.Ranges.{RiseFrom}
use Rattle.state_answers.specs.Sent.{AreSent, IsJob, Job, work_by}

-- the words for the ends of a range, each empty if there is no such end
pub record Ends : Type 0 where
  pub above : List ℕ
  pub below : List ℕ

-- the ranges from one word on, each up to the next of some words, at which the next range begins; the last has no end
abbrev pub touching : List ℕ → List (List ℕ) → List Ends
touching above [] = record { above = above; below = [] } ∷ []
touching above (word ∷ words) = record { above = above; below = word } ∷ touching word words

-- how many columns a query groups by
abbrev pub columns_by : Job → ℕ
columns_by j = length (bound_plan (header_of j.query.reading j.subject) j.query.plan).groups

-- words that name keys of this many columns, each after the one before it
pub record NameRisingKeys (columns : ℕ) (words : List (List ℕ)) : Type 0 where
  pub cuts : List (List ℕ)
  pub are : AllZip (IsEndOf columns) words cuts
  pub rise : RiseFrom columns [] cuts

-- a text is what `finalize` makes of one range of some files of the sources
pub record IsRangeOfSent (j : Job) (ends : Ends) (text : List ℕ) : Type 0 where
  pub bytes : List ℕ
  pub sent : AreSent j bytes
  pub is : IsRangeText ends.above ends.below bytes text

-- texts are those of the ranges that touch at some words, one after another, of a query that groups by columns
pub record AreTouching (j : Job) (texts : List (List ℕ)) : Type 0 where
  pub grouped : columns_by j ≡ 0 → ⊥
  pub words : List (List ℕ)
  pub rise : NameRisingKeys (columns_by j) words
  pub each : AllZip (IsRangeOfSent j) (touching [] words) texts

-- one after another they are the table of one pass over all rows of all sources
abbrev pub RangesAreTable : Type 0
RangesAreTable = (j : Job) (texts : List (List ℕ)) → IsJob j → AreTouching j texts → IsAnswer j.query.plan (all_records (work_by j)) (concat texts)

-- so they are the text that `finalize` makes of any files of the sources without a range
abbrev pub RangesAgree : Type 0
RangesAgree = (j : Job) (texts : List (List ℕ)) (bytes text : List ℕ) → IsJob j → AreTouching j texts → AreSent j bytes → IsTableOf bytes text → concat texts ≡ text

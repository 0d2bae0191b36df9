-- One range of a table.
use Rattle.std.specs.Prelude.{◌≡◌, ◌⊎◌, ℕ, List, [], ◌∷◌, All, length}
use Rattle.state_head.specs.Words.{Keys}
use Rattle.state_head.specs.declared.cover.Stretch.{Stretch}
use Rattle.state_range.specs.Ranges.{IsBoundOf, IsNoBound, IsTextWithin}
use Rattle.state_range.specs.declared.bounds.BoundFault.TheVariants as fault
use Rattle.state_total.specs.Total.{IsCounted}
use Rattle.state_query.specs.Inputs.{Input, IsInput, IsWhole, bound_of, groups_in}
use Rattle.state_query.specs.Whys.{IsStopOf}
use Rattle.state_query.specs.declared.range.Ends.{Ends}
use Rattle.state_query.specs.declared.stop.Stop.{Stop}
use Rattle.state_query.specs.declared.stop.Stop.TheVariants as stop

-- the key of an end of a range, or no bytes if there is no word for it
abbrev pub IsEndOf : ℕ → List ℕ → List ℕ → Type 0
IsEndOf columns [] key = key ≡ []
IsEndOf columns (byte ∷ word) key = IsBoundOf columns (byte ∷ word) key

-- a word that is no record of this many fields
abbrev pub HasNoEnd : ℕ → List ℕ → Type 0
HasNoEnd columns [] = ⊥
HasNoEnd columns (byte ∷ word) = IsNoBound columns (byte ∷ word) fault.NoKey

-- keys of the ends that two words name
pub record AreEnds (columns : ℕ) (above below : List ℕ) (ends : Ends) : Type 0 where
  pub low : IsEndOf columns above ends.low.items
  pub high : IsEndOf columns below ends.high.items

-- why there are none: memory ran out, or a word names no key
abbrev pub IsNoEnds : ℕ → List ℕ → List ℕ → Stop → Type 0
IsNoEnds columns above below why = (why ≡ stop.Memory) ⊎ ((why ≡ stop.NoKey) × (HasNoEnd columns above ⊎ HasNoEnd columns below))

-- how many columns the query of an input groups by
abbrev pub columns_in : Input → ℕ
columns_in i = length (bound_of i).groups

-- the range between the ends that two words name
pub record IsRangeOf (i : Input) (above below : List ℕ) (range : Keys) : Type 0 where
  pub low : IsEndOf (columns_in i) above range.low
  pub high : IsEndOf (columns_in i) below range.high

-- the text that the files come to in a range
pub record HasTextWithin (i : Input) (range : Keys) (text : List ℕ) : Type 0 where
  pub cover : List Stretch
  pub is_whole : IsWhole i cover
  pub counted : All IsCounted cover
  pub is : IsTextWithin i.query.plan (bound_of i) range (groups_in i) text

-- a text is that of the range between the ends that two words name, of the table that the files of an input come to
pub record IsRangeText (above below bytes text : List ℕ) : Type 0 where
  pub input : Input
  pub is_input : IsInput bytes input
  pub range : Keys
  pub is_range : IsRangeOf input above below range
  pub has_text : HasTextWithin input range text

-- a word that is no end for the query of these files
pub record HasNoRange (above below bytes : List ℕ) : Type 0 where
  pub input : Input
  pub is_input : IsInput bytes input
  pub none : HasNoEnd (columns_in input) above ⊎ HasNoEnd (columns_in input) below

-- a reason is one of these words and bytes
abbrev pub IsRangeStop : List ℕ → List ℕ → List ℕ → Stop → Type 0
IsRangeStop above below bytes why = ((why ≡ stop.NoKey) × HasNoRange above below bytes) ⊎ IsStopOf bytes why

-- a read failed, or the reason is one of these words and bytes
abbrev pub IsRangeReadStop : List ℕ → List ℕ → List ℕ → Stop → Type 0
IsRangeReadStop above below bytes why = (why ≡ stop.ReadFault) ⊎ IsRangeStop above below bytes why

-- why a call on a source that has these bytes left ends so: a read or a write failed, or the reason is one of the words
-- and bytes
abbrev pub IsRangeWhy : List ℕ → List ℕ → List ℕ → Stop → Type 0
IsRangeWhy above below bytes why = (why ≡ stop.ReadFault) ⊎ ((why ≡ stop.WriteFault) ⊎ IsRangeStop above below bytes why)

-- Which bytes of which source some stretches have, and how often.
use Rattle.std.specs.Prelude.{◌≡◌, ◌==◌, ◌&&◌, ◌<◌, ◌≤◌, ◌+◌, ◌++◌, ◌≢◌, ◌⊎◌, ℕ, Bool, List, [], ◌∷◌, Contains, None, Option, Some, count_by, if◌then◌else◌, length, nat_le, nat_lt}
use Rattle.std.specs.List.{sum_by}
use Rattle.state_head.specs.declared.cover.Place.{Place}
use Rattle.state_head.specs.declared.cover.Rows.{Rows}
use Rattle.state_head.specs.declared.cover.Rows.TheVariants.{Counted, Refused}
use Rattle.state_head.specs.declared.cover.Stretch.{Stretch}
use Rattle.state_cover.specs.declared.missing.Missing.{Missing}

-- whether a stretch has the byte at this place of this source
abbrev pub has_byte : ℕ → ℕ → Stretch → Bool
has_byte source at s = (s.place.source == source) && nat_le s.place.from at && nat_lt at s.place.to

-- how many of some stretches have it
abbrev pub had : ℕ → ℕ → List Stretch → ℕ
had source at stretches = count_by (has_byte source at) stretches

-- two stretches of this source that say different sizes of it
pub record DifferInSize (source : ℕ) (stretches : List Stretch) : Type 0 where
  pub a : Stretch
  pub b : Stretch
  pub one : Contains stretches a
  pub other : Contains stretches b
  pub of_one : a.place.source ≡ source
  pub of_other : b.place.source ≡ source
  pub differ : a.place.size ≢ b.place.size

-- how many rows a stretch counts, up to its first refused one
abbrev pub rows_of : Rows → ℕ
rows_of (Counted rows) = rows
rows_of (Refused why) = why.row

-- and those of this source
abbrev pub rows_in : ℕ → List Stretch → ℕ
rows_in source stretches = sum_by (λ s. if s.place.source == source then rows_of s.rows else 0) stretches

-- a stretch is all of this source
pub record IsWhole (source : ℕ) (s : Stretch) : Type 0 where
  pub source_is : s.place.source ≡ source
  pub from : s.place.from ≡ 0
  pub to : s.place.to ≡ s.place.size

-- a stretch for each source from this one on, one after another, each all of it
abbrev pub AreWholeFrom : ℕ → List Stretch → Type 0
AreWholeFrom source [] = Unit {0}
AreWholeFrom source (s ∷ more) = IsWhole source s × AreWholeFrom (source + 1) more

-- all of this many sources
abbrev pub AreWhole : ℕ → List Stretch → Type 0
AreWhole sources cover = AreWholeFrom 0 cover × (length cover ≡ sources)

-- bytes from one place up to another, or up to the end of a source of which nothing is known
abbrev pub IsWithin : ℕ → Option ℕ → ℕ → Type 0
IsWithin from None at = from ≤ at
IsWithin from (Some to) at = (from ≤ at) × (at < to)

-- some bytes from this place on, or all of a source
abbrev pub AreSome : ℕ → Option ℕ → Type 0
AreSome from None = from ≡ 0
AreSome from (Some to) = from < to

-- the first bytes of this source that some stretches lack: they have each byte before
pub record IsGap (source : ℕ) (stretches : List Stretch) (gap : Missing) : Type 0 where
  pub source_is : gap.source ≡ source
  pub some : AreSome gap.from gap.to
  pub none : (at : ℕ) → IsWithin gap.from gap.to at → had source at stretches ≡ 0
  pub before : (at : ℕ) → at < gap.from → 1 ≤ had source at stretches

-- the first bytes that a cover of this many sources lacks, of the first source that it does not have as a whole
pub record IsMissing (sources : ℕ) (cover : List Stretch) (gap : Missing) : Type 0 where
  pub front : List Stretch
  pub rest : List Stretch
  pub is : cover ≡ front ++ rest
  pub whole : AreWhole gap.source front
  pub source : gap.source < sources
  pub is_gap : IsGap gap.source cover gap

-- stretches of which none is of a source before this one
abbrev pub AreFrom : ℕ → List Stretch → Type 0
AreFrom source [] = Unit {0}
AreFrom source (s ∷ more) = source ≤ s.place.source

-- the first stretch is all of this source
pub record BeginWhole (source : ℕ) (stretches : List Stretch) : Type 0 where
  pub s : Stretch
  pub more : List Stretch
  pub is : stretches ≡ s ∷ more
  pub is_whole : IsWhole source s

-- where the bytes after this place end that are not of the stretches after it: the first one of its source begins there, or the
-- source ends
abbrev pub IsEndOf : Place → List Stretch → ℕ → Type 0
IsEndOf p [] end = end ≡ p.size
IsEndOf p (s ∷ more) end = ((s.place.source ≡ p.source) × (end ≡ s.place.from)) ⊎ ((s.place.source ≢ p.source) × (end ≡ p.size))

-- What the covers of all files say together.
use Rattle.std.specs.Prelude.{◌≡◌, ◌++◌, ◌∷◌, ℕ, List, All}
use Rattle.std.specs.List.Sorted.{IsPermutation}
use Rattle.state_cover.specs.Bytes.{AreWhole, IsMissing, had}
use Rattle.state_cover.specs.Faults.{IsNoCover}
use Rattle.state_cover.specs.Joined.{IsJoinOf}
use Rattle.state_head.specs.Cover.{IsCover}
use Rattle.state_head.specs.declared.cover.Rows.{Rows}
use Rattle.state_head.specs.declared.cover.Rows.TheVariants.{Counted, Refused}
use Rattle.state_head.specs.declared.cover.Stretch.{Stretch}
use Rattle.state_cover.specs.declared.missing.Missing.{Missing}
use Rattle.state_total.specs.declared.total.FirstRefused.{FirstRefused}
use Rattle.state_total.specs.declared.total.TotalFault.{TotalFault}
use Rattle.state_total.specs.declared.total.TotalFault.TheVariants as fault

-- rows none of which is refused
abbrev pub AreCounted : Rows → Type 0
AreCounted (Counted rows) = Unit {0}
AreCounted (Refused why) = ⊥

abbrev pub IsCounted : Stretch → Type 0
IsCounted s = AreCounted s.rows

-- the first refused row of a cover: of its first stretch that has one
pub record IsFirstRefused (cover : List Stretch) (found : FirstRefused) : Type 0 where
  pub front : List Stretch
  pub s : Stretch
  pub rest : List Stretch
  pub is : cover ≡ front ++ s ∷ rest
  pub before : All IsCounted front
  pub source : found.source ≡ s.place.source
  pub refused : s.rows ≡ Refused found.why

-- a cover of some stretches, in any order: it says of the rows what they say, those that touch as one
pub record IsCoverOf (cover stretches : List Stretch) : Type 0 where
  pub order : List Stretch
  pub same : IsPermutation stretches order
  pub join : IsJoinOf cover order

-- a cover of some stretches that has all bytes of this many sources
pub record IsWholeCover (sources : ℕ) (stretches cover : List Stretch) : Type 0 where
  pub join : IsCoverOf cover stretches
  pub is_cover : IsCover sources cover
  pub bytes : (source at : ℕ) → had source at cover ≡ had source at stretches
  pub whole : AreWhole sources cover

-- the first bytes that no stretch has, of those that their cover lacks
pub record LacksBytes (sources : ℕ) (stretches : List Stretch) (gap : Missing) : Type 0 where
  pub cover : List Stretch
  pub bytes : (source at : ℕ) → had source at cover ≡ had source at stretches
  pub missing : IsMissing sources cover gap

-- why some stretches have not all bytes, each once
abbrev pub IsNoTotal : ℕ → List Stretch → TotalFault → Type 0
IsNoTotal sources stretches (fault.Cover why) = IsNoCover stretches why
IsNoTotal sources stretches (fault.Missing gap) = LacksBytes sources stretches gap

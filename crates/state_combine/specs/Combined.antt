-- Several files as one.
use Rattle.std.specs.Prelude.{◌≡◌, ◌≤◌, ◌^◌, ◌⊎◌, ℕ, List, [], All, length}
use Rattle.partial_agg.specs.Groups.{GroupsByKey}
use Rattle.partial_agg.specs.Listed.{listed}
use Rattle.partial_agg.specs.declared.groups.Group.{Group as MapGroup}
use Rattle.state_body.specs.Body.{IsBody}
use Rattle.state_cover.specs.Bytes.{had}
use Rattle.state_cover.specs.Faults.{IsNoCover}
use Rattle.state_front.specs.Front.{front_bytes}
use Rattle.state_head.specs.Cover.{IsCover}
use Rattle.state_head.specs.Head.{Preface, Subject, head_bytes}
use Rattle.state_head.specs.Words.{Keys}
use Rattle.state_head.specs.declared.cover.Stretch.{Stretch}
use Rattle.state_save.specs.Saving.{AreTuplesOf, DoNotFit, IsTold}
use Rattle.state_total.specs.Total.{IsCounted, IsCoverOf}
use Rattle.state_whole.specs.Files.{StateFile, tuples_in}
use Rattle.state_whole.specs.declared.adding.Shape.{Shape}
use Rattle.state_combine.specs.declared.combining.CombineFault.{CombineFault}
use Rattle.state_combine.specs.declared.combining.CombineFault.TheVariants as fault

-- a file of a map of groups, and of the cover of some stretches; if a row of these is refused, it has no groups
pub record IsCombined (shape : Shape) (subject : Subject) (keys : Keys) (m : GroupsByKey) (stretches : List Stretch) (f : StateFile) : Type 0 where
  pub subject_is : f.preface.subject ≡ subject
  pub keys_are : f.preface.keys ≡ keys
  pub join : IsCoverOf f.preface.cover stretches
  pub is_cover : IsCover subject.sources f.preface.cover
  pub short : length (head_bytes f.preface) ≤ 2 ^ 28
  pub bytes : (source at : ℕ) → had source at f.preface.cover ≡ had source at stretches
  pub counted : All IsCounted f.preface.cover → AreTuplesOf shape (listed m) (tuples_in f)
  pub refused : (All IsCounted f.preface.cover → ⊥) → tuples_in f ≡ []
  pub is_body : All (IsTold shape) (listed m) → IsBody shape.columns shape.kinds.now (length (front_bytes f.preface)) f.blocks

abbrev pub made_of : Subject → Keys → List Stretch → Preface
made_of subject keys cover = record { subject = subject; cover = cover; keys = keys }

-- the groups that a file has beside a cover: those of a map, or none if a row is refused
abbrev pub AreBeside : List Stretch → GroupsByKey → List MapGroup → Type 0
AreBeside cover m groups = (All IsCounted cover × (groups ≡ listed m)) ⊎ ((All IsCounted cover → ⊥) × (groups ≡ []))

-- no file of them is short enough: its head has more than 2^28 bytes, or else what comes after that is too long
pub record IsTooLong (shape : Shape) (subject : Subject) (keys : Keys) (m : GroupsByKey) (stretches : List Stretch) : Type 0 where
  pub cover : List Stretch
  pub join : IsCoverOf cover stretches
  pub groups : List MapGroup
  pub beside : AreBeside cover m groups
  pub long : DoNotFit shape (made_of subject keys cover) groups

-- why they are not written
abbrev pub IsNotCombined : List Stretch → CombineFault → Type 0
IsNotCombined stretches (fault.Cover why) = IsNoCover stretches why
IsNotCombined stretches (fault.Write why) = Unit {0}

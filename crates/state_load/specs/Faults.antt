-- Why bytes are no files that go together.
use Rattle.std.specs.Prelude.{◌≡◌, ◌+◌, ◌++◌, ◌⊎◌, ℕ, List, length}
use Rattle.partial_agg.specs.Groups.{GroupsByKey}
use Rattle.state_front.specs.Front.{IsFront, IsNoFront, front_bytes}
use Rattle.state_head.specs.Head.{Preface, Subject}
use Rattle.state_head.specs.Words.{Keys}
use Rattle.state_load.specs.Loading.{AreParts, files_bytes, sum_of}
use Rattle.state_load.specs.declared.loading.LoadCause.{LoadCause}
use Rattle.state_load.specs.declared.loading.LoadCause.TheVariants as cause
use Rattle.state_load.specs.declared.loading.LoadFault.{LoadFault}
use Rattle.state_whole.specs.Alike.{DiffersIn, RangesDiffer}
use Rattle.state_whole.specs.Files.{StateFile}
use Rattle.state_whole.specs.Sums.{IsNoFile}
use Rattle.state_whole.specs.declared.adding.Shape.{Shape}
use Rattle.state_whole.specs.declared.alike.OtherFile.{OtherFile}
use Rattle.state_whole.specs.declared.files.FileFault.{FileFault}

-- bytes that begin with the front of a file of another plan, header, number of sources or range
pub record IsOther (subject : Subject) (keys : Keys) (bytes : List ℕ) (why : OtherFile) : Type 0 where
  pub front : Preface
  pub is_front : IsFront front
  pub rest : List ℕ
  pub is : bytes ≡ front_bytes front ++ rest
  pub differs : DiffersIn subject front.subject why ⊎ RangesDiffer keys front.keys why

-- bytes that begin with a front, and go on with no body that can be added to this map
pub record CannotGoOn (shape : Shape) (m : GroupsByKey) (bytes : List ℕ) (why : FileFault) : Type 0 where
  pub front : Preface
  pub is_front : IsFront front
  pub rest : List ℕ
  pub is : bytes ≡ front_bytes front ++ rest
  pub none : IsNoFile shape m front (length (front_bytes front)) rest why

-- why bytes do not begin with a front that says this
abbrev pub IsNoAlike : Subject → Keys → List ℕ → LoadCause → Type 0
IsNoAlike subject keys bytes (cause.Front why) = IsNoFront bytes why
IsNoAlike subject keys bytes (cause.Other why) = IsOther subject keys bytes why
IsNoAlike subject keys bytes (cause.File why) = ⊥

-- why bytes do not begin with a file of this query that can be added to this map
abbrev pub IsNoPart : Shape → Subject → Keys → GroupsByKey → List ℕ → LoadCause → Type 0
IsNoPart shape subject keys m bytes (cause.Front why) = IsNoFront bytes why
IsNoPart shape subject keys m bytes (cause.Other why) = IsOther subject keys bytes why
IsNoPart shape subject keys m bytes (cause.File why) = CannotGoOn shape m bytes why

-- why bytes are no files of this query: after some that are, there is none
pub record AreNoParts (shape : Shape) (subject : Subject) (keys : Keys) (m : GroupsByKey) (bytes : List ℕ) (fault : LoadFault) : Type 0 where
  pub files : List StateFile
  pub are : AreParts shape subject keys files
  pub number : fault.file ≡ length files + 1
  pub rest : List ℕ
  pub is : bytes ≡ files_bytes shape files ++ rest
  pub none : IsNoPart shape subject keys (sum_of shape m files) rest fault.why

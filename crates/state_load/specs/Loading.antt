-- Files of partial states, one after another, put together.
use Rattle.std.specs.Prelude.{◌≡◌, ◌++◌, ℕ, List, All, fold, length}
use Rattle.std.specs.List.{flat_map}
use Rattle.partial_agg.specs.Groups.{GroupsByKey}
use Rattle.state_blocks.specs.Blocks.{blocks_bytes}
use Rattle.state_front.specs.Front.{IsFront, front_bytes}
use Rattle.state_front.specs.declared.front.FrontRead.{FrontRead}
use Rattle.state_head.specs.Head.{Subject, preface_of}
use Rattle.state_head.specs.Words.{Keys}
use Rattle.state_head.specs.declared.cover.Stretch.{Stretch}
use Rattle.state_load.specs.declared.look.LookedAt.{LookedAt}
use Rattle.state_whole.specs.Adding.{sum_with}
use Rattle.state_whole.specs.Files.{IsStateFile, StateFile, file_bytes, tuples_in}
use Rattle.state_whole.specs.Sums.{AreSummed}
use Rattle.state_whole.specs.declared.adding.Shape.{Shape}
use Rattle.state_whole.specs.declared.files.Sum.{Sum}

-- the bytes of files, one after another
abbrev pub files_bytes : Shape → List StateFile → List ℕ
files_bytes shape files = flat_map (file_bytes shape.kinds.now) files

-- a file of this plan, header, number of sources and range
pub record IsAlike (subject : Subject) (keys : Keys) (f : StateFile) : Type 0 where
  pub subject_is : f.preface.subject ≡ subject
  pub keys_are : f.preface.keys ≡ keys

-- these bytes begin with a front that says this
pub record IsAlikeFront (subject : Subject) (keys : Keys) (bytes : List ℕ) (found : FrontRead) : Type 0 where
  pub is_front : IsFront (preface_of found.head)
  pub is : bytes ≡ front_bytes (preface_of found.head) ++ found.rest.now
  pub at : found.at ≡ length (front_bytes (preface_of found.head))
  pub subject_is : (preface_of found.head).subject ≡ subject
  pub keys_are : (preface_of found.head).keys ≡ keys

-- a file of some rows of this query
pub record IsPart (shape : Shape) (subject : Subject) (keys : Keys) (f : StateFile) : Type 0 where
  pub is_file : IsStateFile shape.columns shape.kinds.now f
  pub is_alike : IsAlike subject keys f

abbrev pub AreParts : Shape → Subject → Keys → List StateFile → Type 0
AreParts shape subject keys files = All (IsPart shape subject keys) files

-- these bytes begin with a file of this query, whose stretches and blocks were found, and go on after it
pub record IsLookedAt (shape : Shape) (subject : Subject) (keys : Keys) (bytes : List ℕ) (found : LookedAt) : Type 0 where
  pub f : StateFile
  pub is_part : IsPart shape subject keys f
  pub is : bytes ≡ file_bytes shape.kinds.now f ++ found.rest.now
  pub cover_is : found.front.head.cover.items ≡ f.preface.cover
  pub blocks_are : found.blocks.now ≡ blocks_bytes shape.kinds.now f.blocks

-- the groups of files, added to a map in their order
abbrev pub sum_of : Shape → GroupsByKey → List StateFile → GroupsByKey
sum_of shape m files = fold (λ so_far f. sum_with shape so_far (tuples_in f)) m files

-- the stretches of files
abbrev pub stretches_of : List StateFile → List Stretch
stretches_of files = flat_map (λ f. f.preface.cover) files

-- these files were added to some
pub record AreAdded (shape : Shape) (subject : Subject) (keys : Keys) (bytes : List ℕ) (m : GroupsByKey) (cover : List Stretch) (sum : Sum) (count : ℕ) : Type 0 where
  pub files : List StateFile
  pub are : AreParts shape subject keys files
  pub is : bytes ≡ files_bytes shape files
  pub many : length files ≡ count
  pub sum_is : AreSummed (sum_of shape m files) (cover ++ stretches_of files) sum

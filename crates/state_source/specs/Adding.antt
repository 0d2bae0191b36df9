-- The files of a source, added one after another.
use Rattle.std.specs.Prelude.{◌≡◌, ◌+◌, ◌++◌, ◌⊎◌, ℕ, List, Bool, Option, length, true, false}
use Rattle.std.specs.Io.KnownBytes.{IsAtEnd}
use Rattle.partial_agg.specs.Groups.{GroupsByKey}
use Rattle.state_head.specs.Head.{Subject}
use Rattle.state_head.specs.Words.{Keys}
use Rattle.state_head.specs.declared.cover.Stretch.{Stretch}
use Rattle.state_load.specs.Faults.{AreNoParts}
use Rattle.state_load.specs.Loading.{AreParts, files_bytes, stretches_of, sum_of}
use Rattle.state_source.specs.Reading.{Held, ReadsOn}
use Rattle.state_source.specs.declared.adding.SourceFault.{SourceFault}
use Rattle.state_source.specs.declared.adding.SourceFault.TheVariants as fault
use Rattle.state_source.specs.declared.adding.Step.{Step}
use Rattle.state_source.specs.declared.adding.Step.TheVariants as step
use Rattle.state_whole.specs.Files.{StateFile}
use Rattle.state_whole.specs.Sums.{AreSummed}
use Rattle.state_whole.specs.declared.adding.Shape.{Shape}
use Rattle.state_whole.specs.declared.files.Sum.{Sum}

-- bytes begin with this many files, which were added to a sum, and these are left
pub record AreFound (shape : Shape) (subject : Subject) (keys : Keys) (bytes rest : List ℕ) (m : GroupsByKey) (cover : List Stretch) (sum : Sum) (count : ℕ) : Type 0 where
  pub files : List StateFile
  pub are : AreParts shape subject keys files
  pub is : bytes ≡ files_bytes shape files ++ rest
  pub many : length files ≡ count
  pub sum_is : AreSummed (sum_of shape m files) (cover ++ stretches_of files) sum

-- why the files of a source with these bytes are not added: a read failed, memory ran out, or one of them is not taken
abbrev pub IsFaultOf : Shape → Subject → Keys → GroupsByKey → List ℕ → SourceFault → Type 0
IsFaultOf shape subject keys m bytes fault.ReadFault = Unit {0}
IsFaultOf shape subject keys m bytes fault.Memory = Unit {0}
IsFaultOf shape subject keys m bytes (fault.Load why) = AreNoParts shape subject keys m bytes why

-- a fault of the file with this number after this many others: its number among all, or memory, if there is no such
-- number
abbrev pub IsShifted : ℕ → SourceFault → SourceFault → Type 0
IsShifted before fault.ReadFault why = why ≡ fault.ReadFault
IsShifted before fault.Memory why = why ≡ fault.Memory
IsShifted before (fault.Load at) why = (why ≡ fault.Memory) ⊎ (why ≡ fault.Load (record { file = before + at.file; why = at.why }))

-- the file that a text begins with was added to a sum, whatever there was in it, and this is left of the text
abbrev pub IsAddedFirst : Shape → Subject → Keys → List ℕ → List ℕ → Sum → Sum → Type 0
IsAddedFirst shape subject keys text rest old new = (m : GroupsByKey) (cover : List Stretch) → AreSummed m cover old → AreFound shape subject keys text rest m cover new 1

-- what was done with the bytes that are held
abbrev pub IsStep : Shape → Subject → Keys → Held → Held → Sum → Sum → Step → Type 0
IsStep shape subject keys before after old new step.Added = IsAddedFirst shape subject keys before.bytes after.bytes old new × (after.ended ≡ before.ended)
IsStep shape subject keys before after old new step.Ended = (after ≡ before) × (new ≡ old) × (before.ended ≡ true)
IsStep shape subject keys before after old new (step.Wanted count) = (after ≡ before) × (new ≡ old)

-- more was read, if need be, and a file was added
pub record IsNext (shape : Shape) (subject : Subject) (keys : Keys) (was left : Option (List ℕ)) (before after : Held) (old new : Sum) : Type 0 where
  pub text : List ℕ
  pub reads : ReadsOn was left before.bytes text
  pub added : IsAddedFirst shape subject keys text after.bytes old new

-- all was read, and no file was added
pub record IsLast (was left : Option (List ℕ)) (before after : Held) (old new : Sum) : Type 0 where
  pub reads : ReadsOn was left before.bytes after.bytes
  pub end : IsAtEnd left
  pub same : new ≡ old

-- by whether a file was added
abbrev pub ComesNext : Shape → Subject → Keys → Option (List ℕ) → Option (List ℕ) → Held → Held → Sum → Sum → Bool → Type 0
ComesNext shape subject keys was left before after old new true = IsNext shape subject keys was left before after old new
ComesNext shape subject keys was left before after old new false = IsLast was left before after old new

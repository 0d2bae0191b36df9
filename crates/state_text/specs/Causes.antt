-- What a line says of a file that is not taken.
use Rattle.std.specs.Prelude.{◌++◌, ℕ, List, codes, decimal}
use Rattle.state_body.specs.declared.body.BodyFault.{BodyFault}
use Rattle.state_body.specs.declared.body.BodyFault.TheVariants as body
use Rattle.state_file.specs.declared.section.SectionRead.{SectionRead}
use Rattle.state_file.specs.declared.section.SectionRead.TheVariants as section
use Rattle.state_front.specs.declared.title.FrontFault.{FrontFault}
use Rattle.state_front.specs.declared.title.FrontFault.TheVariants as front
use Rattle.state_load.specs.declared.loading.LoadCause.{LoadCause}
use Rattle.state_load.specs.declared.loading.LoadCause.TheVariants as cause
use Rattle.state_whole.specs.declared.adding.GroupFault.{GroupFault}
use Rattle.state_whole.specs.declared.adding.GroupFault.TheVariants as group
use Rattle.state_whole.specs.declared.alike.OtherFile.{OtherFile}
use Rattle.state_whole.specs.declared.alike.OtherFile.TheVariants as other
use Rattle.state_whole.specs.declared.files.FileFault.{FileFault}
use Rattle.state_whole.specs.declared.files.FileFault.TheVariants as file

-- of a tuple by its number
abbrev pub tuple_text : ℕ → List ℕ → List ℕ
tuple_text number said = codes "tuple " ++ (decimal number ++ said)

abbrev pub memory_text : List ℕ
memory_text = codes "out of memory"

-- of the section of a head, a block, a foot
abbrev pub head_text : SectionRead → List ℕ
head_text section.Short = codes "cut off in the head"
head_text (section.Long bytes) = codes "the head is too long"
head_text section.Sum = codes "wrong checksum of the head"

abbrev pub block_text : SectionRead → List ℕ
block_text section.Short = codes "cut off in the blocks"
block_text (section.Long bytes) = codes "a block is too long"
block_text section.Sum = codes "wrong checksum of a block"

abbrev pub foot_text : SectionRead → List ℕ
foot_text section.Short = codes "cut off in the foot"
foot_text (section.Long bytes) = codes "the foot is too long"
foot_text section.Sum = codes "wrong checksum of the foot"

-- of what a file begins with
abbrev pub front_text : FrontFault → List ℕ
front_text front.Memory = memory_text
front_text front.NoStates = codes "no states"
front_text front.OtherVersion = codes "another version"
front_text (front.Section why) = head_text why
front_text front.NoHead = codes "no right head"

-- of what comes after its head
abbrev pub body_text : BodyFault → List ℕ
body_text body.Memory = memory_text
body_text (body.Block why) = block_text why
body_text (body.Group number) = tuple_text number (codes ": no group")
body_text (body.Foot why) = foot_text why
body_text body.OtherFoot = codes "another foot"
body_text body.Cut = codes "cut off in the end"
body_text body.End = codes "another end"

-- of its groups
abbrev pub group_text : GroupFault → List ℕ
group_text group.Memory = memory_text
group_text (group.NoGroup number) = tuple_text number (codes ": no group")
group_text (group.Order number) = tuple_text number (codes ": out of order")
group_text (group.Range number) = tuple_text number (codes ": out of range")

abbrev pub file_text : FileFault → List ℕ
file_text file.Memory = memory_text
file_text (file.Body why) = body_text why
file_text (file.Group why) = group_text why
file_text file.Refused = codes "tuples and a refused row"
file_text file.Rows = codes "a group has too many rows"

-- of what it says otherwise than the first one
abbrev pub other_text : OtherFile → List ℕ
other_text other.Plan = codes "another plan than in the first file"
other_text other.Header = codes "another header than in the first file"
other_text other.Sources = codes "another number of sources than in the first file"
other_text other.Range = codes "another range than in the first file"

abbrev pub cause_text : LoadCause → List ℕ
cause_text (cause.Front why) = front_text why
cause_text (cause.Other why) = other_text why
cause_text (cause.File why) = file_text why

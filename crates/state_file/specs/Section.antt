-- A section of a file of states: its length in four bytes, its bytes, and their checksum in four.
use Rattle.std.specs.Prelude.{◌≡◌, ◌≢◌, ◌<◌, ◌+◌, ◌++◌, ◌⊎◌, ℕ, List, length}
use Rattle.std.specs.Int.{to_le_bytes, w32}
use Rattle.state_file.specs.Checksum.{crc32c}
use Rattle.state_file.specs.declared.section.SectionRead.{SectionRead}
use Rattle.state_file.specs.declared.section.SectionRead.TheVariants.{Long, Short, Sum}

-- its length, its bytes, some number in four bytes
abbrev pub section_with : List ℕ → ℕ → List ℕ
section_with part sum = to_le_bytes w32 (length part) ++ (part ++ to_le_bytes w32 sum)

-- the section of these bytes
unfoldable pub section : List ℕ → List ℕ
section part = section_with part (crc32c part)

-- bytes that begin with this length
pub record BeginsWith (size : ℕ) (bytes : List ℕ) : Type 0 where
  pub after : List ℕ
  pub is : bytes ≡ to_le_bytes w32 size ++ after

-- bytes that end before the section does whose length they begin with
pub record EndsWithin (bytes : List ℕ) : Type 0 where
  pub size : ℕ
  pub after : List ℕ
  pub is : bytes ≡ to_le_bytes w32 size ++ after
  pub short : length after < size + 4

-- bytes that begin with a section but for its checksum, which is another one
pub record HasOtherSum (bytes : List ℕ) : Type 0 where
  pub part : List ℕ
  pub sum : ℕ
  pub rest : List ℕ
  pub is : bytes ≡ section_with part sum ++ rest
  pub other : sum ≢ crc32c part

-- why bytes begin with no section of at most this many bytes
abbrev pub IsNoSection : ℕ → List ℕ → SectionRead → Type 0
IsNoSection most bytes Short = (length bytes < 4) ⊎ EndsWithin bytes
IsNoSection most bytes (Long size) = BeginsWith size bytes × (most < size)
IsNoSection most bytes Sum = HasOtherSum bytes

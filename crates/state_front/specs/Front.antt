-- What a file of states begins with: its first line, which says the version, and the head.
use Rattle.std.specs.Prelude.{◌≡◌, ◌≤◌, ◌^◌, ◌++◌, ◌∷◌, [], ℕ, List, codes, length}
use Rattle.state_file.specs.Section.{IsNoSection, section}
use Rattle.state_file.specs.declared.section.SectionRead.{SectionRead}
use Rattle.state_front.specs.declared.title.FrontFault.{FrontFault}
use Rattle.state_front.specs.declared.title.FrontFault.TheVariants.{Memory, NoHead, NoStates, OtherVersion, Section}
use Rattle.state_head.specs.Head.{IsHead, Preface, head_bytes}

-- what each version's files begin with
abbrev pub name_bytes : List ℕ
name_bytes = codes "parstream states "

-- the rest of the first line
abbrev pub version_bytes : List ℕ
version_bytes = codes "1" ++ 10 ∷ []

-- the first line, and the section of the head
unfoldable pub front_bytes : Preface → List ℕ
front_bytes p = name_bytes ++ (version_bytes ++ section (head_bytes p))

-- a head of at most 2^28 bytes
pub record IsFront (p : Preface) : Type 0 where
  pub is_head : IsHead p
  pub short : length (head_bytes p) ≤ 2 ^ 28

-- bytes that begin with the name, and go on with another version
pub record HasOtherVersion (bytes : List ℕ) : Type 0 where
  pub rest : List ℕ
  pub is : bytes ≡ name_bytes ++ rest
  pub other : (more : List ℕ) → rest ≡ version_bytes ++ more → ⊥

-- bytes with the first line, after which there is no section of at most 2^28 bytes
pub record HasNoSection (bytes : List ℕ) (why : SectionRead) : Type 0 where
  pub rest : List ℕ
  pub is : bytes ≡ name_bytes ++ (version_bytes ++ rest)
  pub none : IsNoSection (2 ^ 28) rest why

-- or one of at most 2^28 bytes that are no head
pub record HasNoHead (bytes : List ℕ) : Type 0 where
  pub part : List ℕ
  pub rest : List ℕ
  pub is : bytes ≡ name_bytes ++ (version_bytes ++ (section part ++ rest))
  pub short : length part ≤ 2 ^ 28
  pub none : (p : Preface) → IsHead p → part ≡ head_bytes p → ⊥

-- why bytes do not begin as a file of states does
abbrev pub IsNoFront : List ℕ → FrontFault → Type 0
IsNoFront bytes Memory = Unit {0}
IsNoFront bytes NoStates = (rest : List ℕ) → bytes ≡ name_bytes ++ rest → ⊥
IsNoFront bytes OtherVersion = HasOtherVersion bytes
IsNoFront bytes (Section why) = HasNoSection bytes why
IsNoFront bytes NoHead = HasNoHead bytes

-- why bytes do not begin with the first line
abbrev pub IsNoTitle : List ℕ → FrontFault → Type 0
IsNoTitle bytes Memory = ⊥
IsNoTitle bytes NoStates = (rest : List ℕ) → bytes ≡ name_bytes ++ rest → ⊥
IsNoTitle bytes OtherVersion = HasOtherVersion bytes
IsNoTitle bytes (Section why) = ⊥
IsNoTitle bytes NoHead = ⊥

-- why the bytes of a section are no head
abbrev pub IsNoPart : List ℕ → FrontFault → Type 0
IsNoPart part Memory = Unit {0}
IsNoPart part NoStates = ⊥
IsNoPart part OtherVersion = ⊥
IsNoPart part (Section why) = ⊥
IsNoPart part NoHead = (p : Preface) → IsHead p → part ≡ head_bytes p → ⊥

-- Bytes of a source, read on as they are wanted.
use Rattle.std.specs.Prelude.{◌≡◌, ◌++◌, ℕ, List, Bool, Option, IfSome, false, true}
use Rattle.std.specs.Io.KnownBytes.{Consumes, IsAtEnd}
use Rattle.state_front.specs.Front.{IsFront, front_bytes}
use Rattle.state_head.specs.Head.{Preface}
use Rattle.state_source.specs.declared.first.FirstBytes.{FirstBytes}
use Rattle.state_source.specs.declared.adding.SourceFault.{SourceFault}
use Rattle.state_source.specs.declared.adding.SourceFault.TheVariants as fault

-- bytes that were read and not taken, and whether the source is at its end
pub record Held : Type 0 where
  pub bytes : List ℕ
  pub ended : Bool

-- a text is what there was, and what was then read of a source
abbrev pub ReadsOn : Option (List ℕ) → Option (List ℕ) → List ℕ → List ℕ → Type 0
ReadsOn old new before text = (more : List ℕ) × Consumes old new more × (text ≡ before ++ more)

-- a source of which it is known that it has ended has nothing left
abbrev pub EndsAt : Bool → Option (List ℕ) → Type 0
EndsAt ended left = ended ≡ true → IsAtEnd left

-- something holds of the bytes that a source has left; if they are not known, of some
abbrev pub OfLeft : Option (List ℕ) → (List ℕ → Type 0) → Type 0
OfLeft left P = (bytes : List ℕ) × IfSome left (λ known. bytes ≡ known) × P bytes

-- bytes that begin with the front of a file
pub record HasFront (bytes : List ℕ) : Type 0 where
  pub front : Preface
  pub is_front : IsFront front
  pub rest : List ℕ
  pub is : bytes ≡ front_bytes front ++ rest

-- the first bytes of a source, which has these left: they begin with the front of a file, or are all
pub record IsBegun (left : Option (List ℕ)) (first : FirstBytes) : Type 0 where
  pub end : EndsAt first.ended left
  pub front : first.ended ≡ false → HasFront first.bytes.items

-- no file is why: a read failed, or memory ran out
abbrev pub IsNoLoad : SourceFault → Type 0
IsNoLoad fault.ReadFault = Unit {0}
IsNoLoad fault.Memory = Unit {0}
IsNoLoad (fault.Load why) = ⊥

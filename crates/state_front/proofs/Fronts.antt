-- What a file begins with: how it is written and read, and why it is not there.
use Rattle.std.proofs.Common.{◌≡◌, ◌≤◌, ◌+◌, ◌-◌, ◌^◌, ◌++◌, ◌∙◌, ℕ, List, ap, append_assoc, arith, length, length-append, subst, sym}
use Rattle.state_file.specs.Section.{IsNoSection, section}
use Rattle.state_file.specs.declared.section.SectionRead.{SectionRead}
use Rattle.state_front.specs.Front.{HasNoHead, IsFront, IsNoFront, IsNoPart, IsNoTitle, front_bytes, name_bytes, version_bytes}
use Rattle.state_front.specs.declared.title.FrontFault.{FrontFault}
use Rattle.state_front.specs.declared.title.FrontFault.TheVariants.{Memory, NoHead, NoStates, OtherVersion, Section}
use Rattle.state_head.specs.Head.{IsHead, Preface, head_bytes}

-- behind other bytes
pub front_pushed : (out bytes part : List ℕ) (p : Preface) → part ≡ head_bytes p → bytes ≡ ((out ++ name_bytes) ++ version_bytes) ++ section part → bytes ≡ out ++ front_bytes p
unfolding front_bytes
front_pushed out bytes part p same e =
    e ∙ ap (λ (x : List ℕ). ((out ++ name_bytes) ++ version_bytes) ++ section x) same ∙ append_assoc (out ++ name_bytes) version_bytes (section (head_bytes p))
    ∙ append_assoc out name_bytes (version_bytes ++ section (head_bytes p))

in_front : (a b c rest : List ℕ) → (a ++ (b ++ c)) ++ rest ≡ a ++ (b ++ (c ++ rest))
in_front a b c rest = append_assoc a (b ++ c) rest ∙ ap (λ (bs : List ℕ). a ++ bs) (append_assoc b c rest)

pub front_written : (bytes rest : List ℕ) (p : Preface) → bytes ≡ front_bytes p ++ rest → bytes ≡ name_bytes ++ (version_bytes ++ (section (head_bytes p) ++ rest))
unfolding front_bytes
front_written bytes rest p e = e ∙ in_front name_bytes version_bytes (section (head_bytes p)) rest

pub front_read : (bytes after part rest : List ℕ) (p : Preface) → bytes ≡ name_bytes ++ (version_bytes ++ after) → after ≡ section part ++ rest → part ≡ head_bytes p → bytes ≡ front_bytes p ++ rest
unfolding front_bytes
front_read bytes after part rest p e f same =
    e ∙ ap (λ (bs : List ℕ). name_bytes ++ (version_bytes ++ bs)) (f ∙ ap (λ (x : List ℕ). section x ++ rest) same) ∙ sym (in_front name_bytes version_bytes (section (head_bytes p)) rest)

pub front_long : (bytes rest : List ℕ) (p : Preface) → bytes ≡ front_bytes p ++ rest → length bytes - length rest ≡ length (front_bytes p)
front_long bytes rest p e = omega (arith, ap length e, length-append (front_bytes p) rest)

pub title_none : (bytes : List ℕ) (why : FrontFault) → IsNoTitle bytes why → IsNoFront bytes why
title_none bytes Memory none = absurd none
title_none bytes NoStates none = none
title_none bytes OtherVersion none = none
title_none bytes (Section why) none = absurd none
title_none bytes NoHead none = absurd none

pub part_none : (bytes after part rest : List ℕ) (why : FrontFault) → bytes ≡ name_bytes ++ (version_bytes ++ after) → after ≡ section part ++ rest → length part ≤ 2 ^ 28 → IsNoPart part why → IsNoFront bytes why
part_none bytes after part rest Memory e f short none = tt
part_none bytes after part rest NoStates e f short none = absurd none
part_none bytes after part rest OtherVersion e f short none = absurd none
part_none bytes after part rest (Section why) e f short none = absurd none
part_none bytes after part rest NoHead e f short none = record { part = part; rest = rest; is = e ∙ ap (λ (bs : List ℕ). name_bytes ++ (version_bytes ++ bs)) f; short = short; none = none }

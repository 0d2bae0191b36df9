-- Files: bytes are those of one list of them.
use Rattle.std.proofs.Common.{◌≡◌, ◌<◌, ◌^◌, ◌++◌, ◌∙◌, ℕ, Bool, List, [], ◌∷◌, All, ap, append_assoc, arith, length, length-append, refl, sym}
use Rattle.std.specs.List.{flat_map}
use Rattle.std.proofs.lemmas.List.Elements.{All-head, All-tail}
use Rattle.state_blocks.specs.Blocks.{Group, IsBlock, block_bytes, block_section, blocks_bytes}
use Rattle.state_body.specs.Body.{body_bytes, end_bytes, foot_bytes}
use Rattle.state_file.specs.Section.{section}
use Rattle.state_front.specs.Front.{IsFront, front_bytes, name_bytes}
use Rattle.state_head.specs.Head.{Preface}
use Rattle.state_whole.specs.Files.{IsStateFile, StateFile, file_bytes}
use Rattle.state_once.specs.Once.{FileIsOnce, FilesAreOnce}
use Rattle.state_once.proofs.Groups.{block_once, block_some}
use Rattle.state_once.proofs.Heads.{front_is_once}
use Rattle.state_once.proofs.Numbers.{parts_apart, section_apart, section_then}

-- ---- a body

module _ (columns : ℕ) (kinds : List Bool) where
  abbrev Are : List (List Group) → Type 0
  Are blocks = All (IsBlock columns kinds) blocks

  -- a block is not the end of the blocks
  no_end : (block : List Group) → IsBlock columns kinds block → [] ≡ block_bytes kinds block → ⊥
  no_end [] is e = let some = is.some in omega (arith, some)
  no_end (g ∷ gs) is e = block_some kinds g gs e

  short_of : (block : List Group) → IsBlock columns kinds block → length (block_bytes kinds block) < 2 ^ 32
  short_of block is = let short = is.short in omega (arith, short)

  blocks_apart : (bs cs : List (List Group)) (x y : List ℕ) → Are bs → Are cs → flat_map (block_section kinds) bs ++ (section [] ++ x) ≡ flat_map (block_section kinds) cs ++ (section [] ++ y) → bs ≡ cs
  blocks_apart [] [] x y h k e = refl
  blocks_apart [] (c ∷ cs) x y h k e =
      let is = All-head (IsBlock columns kinds) c cs k in
      let one = section_apart [] (block_bytes kinds c) x (flat_map (block_section kinds) cs ++ (section [] ++ y)) (omega arith) (short_of c is) (e ∙ append_assoc (block_section kinds c) (flat_map (block_section kinds) cs) (section [] ++ y)) in
      absurd (no_end c is one.0)
  blocks_apart (b ∷ bs) [] x y h k e =
      let is = All-head (IsBlock columns kinds) b bs h in
      let one = section_apart [] (block_bytes kinds b) y (flat_map (block_section kinds) bs ++ (section [] ++ x)) (omega arith) (short_of b is) (sym e ∙ append_assoc (block_section kinds b) (flat_map (block_section kinds) bs) (section [] ++ x)) in
      absurd (no_end b is one.0)
  blocks_apart (b ∷ bs) (c ∷ cs) x y h k e =
      let is = All-head (IsBlock columns kinds) b bs h in
      let is' = All-head (IsBlock columns kinds) c cs k in
      let one = section_then (block_bytes kinds b) (block_bytes kinds c) (flat_map (block_section kinds) bs) (flat_map (block_section kinds) cs) (section [] ++ x) (section [] ++ y) (short_of b is) (short_of c is') e in
      let same = block_once columns kinds b c is.each is'.each one.0 in
      ap (λ (z : List Group). z ∷ bs) same ∙ ap (λ (l : List (List Group)). c ∷ l) (blocks_apart bs cs x y (All-tail (IsBlock columns kinds) b bs h) (All-tail (IsBlock columns kinds) c cs k) one.1)

  body_apart : (at : ℕ) (bs cs : List (List Group)) (x y : List ℕ) → Are bs → Are cs → body_bytes kinds at bs ++ x ≡ body_bytes kinds at cs ++ y → (bs ≡ cs) × (x ≡ y)
  unfolding body_bytes blocks_bytes
  body_apart at bs cs x y h k e =
      let mine = end_bytes (foot_bytes kinds at bs) in
      let its = end_bytes (foot_bytes kinds at cs) in
      let bytes = sym (append_assoc (flat_map (block_section kinds) bs) (section [] ++ mine) x ∙ ap (λ (l : List ℕ). flat_map (block_section kinds) bs ++ l) (append_assoc (section []) mine x)) ∙ e
      ∙ (append_assoc (flat_map (block_section kinds) cs) (section [] ++ its) y ∙ ap (λ (l : List ℕ). flat_map (block_section kinds) cs ++ l) (append_assoc (section []) its y)) in
      let same = blocks_apart bs cs (mine ++ x) (its ++ y) h k bytes in
      let long : length (body_of bs) ≡ length (body_of cs) = ap (λ (l : List (List Group)). length (body_of l)) same in
      (same, (parts_apart (body_of bs) (body_of cs) x y long e).1)
    where
      body_of : List (List Group) → List ℕ
      body_of blocks = body_bytes kinds at blocks

-- ---- a file

front_some : (p : Preface) → 0 < length (front_bytes p)
unfolding front_bytes
front_some p = omega (arith, length-append name_bytes)

pub file_is_once : FileIsOnce
unfolding file_bytes
file_is_once columns kinds f g x y h k e =
    let body = λ (f : StateFile). body_bytes kinds (length (front_bytes f.preface)) f.blocks in
    let first = sym (append_assoc (front_bytes f.preface) (body f) x) ∙ e ∙ append_assoc (front_bytes g.preface) (body g) y in
    let front = front_is_once f.preface g.preface (body f ++ x) (body g ++ y) h.is_front k.is_front first in
    let at : length (front_bytes g.preface) ≡ length (front_bytes f.preface) = ap (λ (p : Preface). length (front_bytes p)) (sym front.0) in
    let rest = front.1 ∙ ap (λ (n : ℕ). body_bytes kinds n g.blocks ++ y) at in
    let blocks = body_apart columns kinds (length (front_bytes f.preface)) f.blocks g.blocks x y h.are_groups.is_body.each k.are_groups.is_body.each rest in
    (λ i. record { preface = front.0 i; blocks = blocks.0 i }, blocks.1)

pub file_some : (kinds : List Bool) (f : StateFile) (rest : List ℕ) → [] ≡ file_bytes kinds f ++ rest → ⊥
unfolding file_bytes
file_some kinds f rest e =
    let body = body_bytes kinds (length (front_bytes f.preface)) f.blocks in
    let some = front_some f.preface in
    omega (arith, some, ap length e, length-append (front_bytes f.preface ++ body) rest, length-append (front_bytes f.preface) body)

-- files of any kinds that begin the same bytes have one front
pub preface_once : (kinds others : List Bool) (f g : StateFile) (x y : List ℕ) → IsFront f.preface → IsFront g.preface → file_bytes kinds f ++ x ≡ file_bytes others g ++ y → f.preface ≡ g.preface
unfolding file_bytes
preface_once kinds others f g x y h k e =
    let mine = body_bytes kinds (length (front_bytes f.preface)) f.blocks in
    let its = body_bytes others (length (front_bytes g.preface)) g.blocks in
    (front_is_once f.preface g.preface (mine ++ x) (its ++ y) h k (sym (append_assoc (front_bytes f.preface) mine x) ∙ e ∙ append_assoc (front_bytes g.preface) its y)).0

pub files_are_once : FilesAreOnce
files_are_once columns kinds [] [] h k e = refl
files_are_once columns kinds [] (g ∷ gs) h k e = absurd (file_some kinds g (flat_map (file_bytes kinds) gs) e)
files_are_once columns kinds (f ∷ fs) [] h k e = absurd (file_some kinds f (flat_map (file_bytes kinds) fs) (sym e))
files_are_once columns kinds (f ∷ fs) (g ∷ gs) h k e =
    let one = file_is_once columns kinds f g (flat_map (file_bytes kinds) fs) (flat_map (file_bytes kinds) gs) (All-head (IsStateFile columns kinds) f fs h) (All-head (IsStateFile columns kinds) g gs k) e in
    ap (λ (z : StateFile). z ∷ fs) one.0
    ∙ ap (λ (l : List StateFile). g ∷ l) (files_are_once columns kinds fs gs (All-tail (IsStateFile columns kinds) f fs h) (All-tail (IsStateFile columns kinds) g gs k) one.1)

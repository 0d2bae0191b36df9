-- The end of a file, and all that comes after its head.
use Rattle.std.proofs.Common.{◌≡◌, ◌<◌, ◌≤◌, ◌-◌, ◌++◌, ◌∙◌, ℕ, Bool, true, false, List, [], All, IfOk, Err, Ok, Result, ap, append_assoc, arith, length, length-append, subst, sym, take}
use Rattle.std.specs.Prelude.{bytes_eq}
use Rattle.std.proofs.lemmas.Bool.{true≢false}
use Rattle.std.proofs.lemmas.List.{take-append-le}
use Rattle.std.proofs.lemmas.Slice.Eq.{bytes_eq-Decides}
use Rattle.std.proofs.Math.Seq.{take-length}
use Rattle.std.specs.Int.{to_le_bytes, w32}
use Rattle.state_blocks.specs.Blocks.{Group, IsBlock, blocks_bytes}
use Rattle.state_body.specs.Body.{IsIndex, body_bytes, end_bytes, foot_bytes, groups_of, last_bytes}
use Rattle.state_body.specs.Faults.{HasNoEnd, IsNoEnd, IsNoLength}
use Rattle.state_body.specs.declared.body.BodyFault.{BodyFault}
use Rattle.state_body.specs.declared.body.BodyFault.TheVariants.{Block, Cut, End, Foot, Memory, OtherFoot}
use Rattle.state_body.specs.declared.body.BodyFault.TheVariants as fault
use Rattle.state_body.specs.declared.index.Index.{Index}
use Rattle.state_file.specs.Number.{number_bytes}
use Rattle.state_file.specs.Section.{section}

pub if_ok : {A E : Type 0} {P Q : A → Type 0} (r : Result A E) → ((x : A) → P x → Q x) → IfOk r P → IfOk r Q
if_ok (Ok x) f p = f x p
if_ok (Err e) f p = tt

-- what a test of two texts says
pub same_of : (a b : List ℕ) (r : Bool) → r ≡ bytes_eq a b → r ≡ true → a ≡ b
same_of a b r is holds = (bytes_eq-Decides a b).0 (sym is ∙ holds)

pub not_same : (a b : List ℕ) (r : Bool) → r ≡ bytes_eq a b → r ≡ false → a ≡ b → ⊥
not_same a b r is fails same = true≢false (sym ((bytes_eq-Decides a b).1 same) ∙ sym is ∙ fails)

-- the length of a foot and the last bytes
abbrev pub length_bytes : List ℕ → List ℕ
length_bytes foot = to_le_bytes w32 (length foot) ++ last_bytes

pub end_written : (bytes foot rest : List ℕ) → bytes ≡ end_bytes foot ++ rest → bytes ≡ section foot ++ (length_bytes foot ++ rest)
unfolding end_bytes
end_written bytes foot rest e = e ∙ append_assoc (section foot) (length_bytes foot) rest

pub end_read : (bytes after rest part foot : List ℕ) → bytes ≡ section part ++ after → part ≡ foot → after ≡ length_bytes foot ++ rest → bytes ≡ end_bytes foot ++ rest
unfolding end_bytes
end_read bytes after rest part foot e same f =
    e ∙ ap (λ (p : List ℕ). section p ++ after) same ∙ ap (λ (bs : List ℕ). section foot ++ bs) f ∙ sym (append_assoc (section foot) (length_bytes foot) rest)

-- why there is no end, if its length and the last bytes are not there
pub no_length : (foot bytes part after : List ℕ) → bytes ≡ section part ++ after → part ≡ foot → (why : BodyFault) → IsNoLength (length foot) after why → IsNoEnd foot bytes why
no_length foot bytes part after e same Memory none = absurd none
no_length foot bytes part after e same (Block why) none = absurd none
no_length foot bytes part after e same (fault.Group number) none = absurd none
no_length foot bytes part after e same (Foot why) none = absurd none
no_length foot bytes part after e same OtherFoot none = absurd none
no_length foot bytes part after e same Cut none = record { rest = after; is = e ∙ ap (λ (p : List ℕ). section p ++ after) same; short = none }
no_length foot bytes part after e same End none = record { rest = after; is = e ∙ ap (λ (p : List ℕ). section p ++ after) same; long = none.0; other = none.1 }

end_long : (size : ℕ) → length (to_le_bytes w32 size ++ last_bytes) ≡ 12
end_long size = length-append (to_le_bytes w32 size) last_bytes

-- fewer bytes than come after a foot
pub no_room : (bytes rest : List ℕ) (size : ℕ) → length bytes < 12 → bytes ≡ (to_le_bytes w32 size ++ last_bytes) ++ rest → ⊥
no_room bytes rest size short e = omega (arith, short, ap length e, length-append (to_le_bytes w32 size ++ last_bytes) rest, end_long size)

-- four bytes and the last ones
pub last_written : (bytes rest : List ℕ) (n : ℕ) → bytes ≡ (to_le_bytes w32 n ++ last_bytes) ++ rest → bytes ≡ to_le_bytes w32 n ++ (last_bytes ++ rest)
last_written bytes rest n e = e ∙ append_assoc (to_le_bytes w32 n) last_bytes rest

pub last_read : (bytes after last rest : List ℕ) (n : ℕ) → bytes ≡ to_le_bytes w32 n ++ after → after ≡ last ++ rest → last ≡ last_bytes → bytes ≡ (to_le_bytes w32 n ++ last_bytes) ++ rest
last_read bytes after last rest n e f same =
    e ∙ ap (λ (bs : List ℕ). to_le_bytes w32 n ++ bs) (f ∙ ap (λ (bs : List ℕ). bs ++ rest) same) ∙ sym (append_assoc (to_le_bytes w32 n) last_bytes rest)

-- ---- the foot

pub foot_is : (kinds : List Bool) (start : ℕ) (blocks : List (List Group)) (index : Index) (foot : List ℕ) → IsIndex kinds start blocks index
    → foot ≡ (number_bytes index.groups ++ number_bytes index.blocks) ++ index.places.items → foot ≡ foot_bytes kinds start blocks
unfolding foot_bytes
foot_is kinds start blocks index foot is e =
    e ∙ append_assoc (number_bytes index.groups) (number_bytes index.blocks) index.places.items
    ∙ ap (λ (n : ℕ). number_bytes n ++ (number_bytes index.blocks ++ index.places.items)) is.groups_many
    ∙ ap (λ (n : ℕ). number_bytes (length (groups_of blocks)) ++ (number_bytes n ++ index.places.items)) is.blocks_many
    ∙ ap (λ (bs : List ℕ). number_bytes (length (groups_of blocks)) ++ (number_bytes (length blocks) ++ bs)) is.places

-- ---- all that comes after a head

pub body_written : (kinds : List Bool) (at : ℕ) (blocks : List (List Group)) (bytes rest : List ℕ) → bytes ≡ body_bytes kinds at blocks ++ rest
    → bytes ≡ blocks_bytes kinds blocks ++ (section [] ++ (end_bytes (foot_bytes kinds at blocks) ++ rest))
unfolding body_bytes
body_written kinds at blocks bytes rest e =
    e ∙ append_assoc (blocks_bytes kinds blocks) (section [] ++ end_bytes (foot_bytes kinds at blocks)) rest
    ∙ ap (λ (bs : List ℕ). blocks_bytes kinds blocks ++ bs) (append_assoc (section []) (end_bytes (foot_bytes kinds at blocks)) rest)

pub body_read : (kinds : List Bool) (at : ℕ) (blocks : List (List Group)) (bytes after rest foot : List ℕ) → bytes ≡ blocks_bytes kinds blocks ++ (section [] ++ after) → after ≡ end_bytes foot ++ rest → foot ≡ foot_bytes kinds at blocks
    → bytes ≡ body_bytes kinds at blocks ++ rest
unfolding body_bytes
body_read kinds at blocks bytes after rest foot e f same =
    e ∙ ap (λ (bs : List ℕ). blocks_bytes kinds blocks ++ (section [] ++ bs)) (f ∙ ap (λ (x : List ℕ). end_bytes x ++ rest) same)
    ∙ ap (λ (bs : List ℕ). blocks_bytes kinds blocks ++ bs) (sym (append_assoc (section []) (end_bytes (foot_bytes kinds at blocks)) rest))
    ∙ sym (append_assoc (blocks_bytes kinds blocks) (section [] ++ end_bytes (foot_bytes kinds at blocks)) rest)

pub no_end : (columns : ℕ) (kinds : List Bool) (at : ℕ) (blocks : List (List Group)) (bytes after foot : List ℕ) (why : BodyFault) → All (IsBlock columns kinds) blocks → bytes ≡ blocks_bytes kinds blocks ++ (section [] ++ after)
    → foot ≡ foot_bytes kinds at blocks → IsNoEnd foot after why → HasNoEnd columns kinds at bytes why
no_end columns kinds at blocks bytes after foot why each e same none =
    record { blocks = blocks; each = each; rest = after; is = e; none = subst (λ (bs : List ℕ). IsNoEnd bs after why) same none }

-- how many bytes the blocks have
pub blocks_size : (kinds : List Bool) (at : ℕ) (blocks : List (List Group)) (index : Index) → IsIndex kinds at blocks index → index.at - at ≡ length (blocks_bytes kinds blocks)
blocks_size kinds at blocks index is =
    let here = is.at in
    omega (arith, here)

pub blocks_fit : (kinds : List Bool) (at : ℕ) (blocks : List (List Group)) (index : Index) (bytes after : List ℕ) → IsIndex kinds at blocks index → bytes ≡ blocks_bytes kinds blocks ++ (section [] ++ after) → (at ≤ index.at) × (index.at - at ≤ length bytes)
blocks_fit kinds at blocks index bytes after is e =
    let here = is.at in
    let long = ap length e ∙ length-append (blocks_bytes kinds blocks) (section [] ++ after) in
    (omega (arith, here), omega (arith, here, long))

take_front : (a b : List ℕ) → take (length a) (a ++ b) ≡ a
take_front a b = take-append-le (length a) a b (omega arith) ∙ take-length a

pub blocks_front : (kinds : List Bool) (at : ℕ) (blocks : List (List Group)) (index : Index) (bytes after : List ℕ) → IsIndex kinds at blocks index → bytes ≡ blocks_bytes kinds blocks ++ (section [] ++ after)
    → take (index.at - at) bytes ≡ blocks_bytes kinds blocks
blocks_front kinds at blocks index bytes after is e =
    ap (λ (n : ℕ). take n bytes) (blocks_size kinds at blocks index is) ∙ ap (λ (bs : List ℕ). take (length (blocks_bytes kinds blocks)) bs) e ∙ take_front (blocks_bytes kinds blocks) (section [] ++ after)

-- Blocks of a file, one after another: what is kept of them so far.
use Rattle.std.proofs.Common.{◌≡◌, ◌<◌, ◌≤◌, ◌+◌, ◌^◌, ◌++◌, ◌∙◌, ℕ, Bool, List, [], ◌∷◌, All, ap, append_assoc, append-nil, arith, length, length-append, map, refl, subst, sym}
use Rattle.std.specs.List.{flat_map}
use Rattle.std.proofs.lemmas.Grind.{flat_map-append}
use Rattle.std.proofs.lemmas.List.Elements.{All-head, All-tail}
use Rattle.partial_agg.specs.Groups.{GroupsByKey}
use Rattle.state_blocks.specs.Blocks.{Group, IsBlock, block_bytes, block_section, blocks_bytes}
use Rattle.state_body.specs.Body.{groups_of}
use Rattle.state_body.proofs.Indexes.{section_long}
use Rattle.state_file.specs.Section.{section}
use Rattle.state_keep.specs.declared.keep.KeepFault.{KeepFault}
use Rattle.state_keep.specs.declared.keep.KeepFault.TheVariants as fault
use Rattle.state_keep.proofs.Outside.{rise_later}
use Rattle.state_order.specs.Order.{Rise}
use Rattle.state_whole.specs.Adding.{kept_sum, kept_with, key_of, state_of}
use Rattle.state_whole.specs.declared.adding.Kept.{Kept}
use Rattle.state_whole.specs.declared.adding.Shape.{Shape}

-- what some blocks have that is kept is added, and these bytes are left of all
pub record AreBegun (shape : Shape) (kept : Kept) (blocks : List (List Group)) (rest : List ℕ) (m0 m : GroupsByKey) : Type 0 where
  pub front : List (List Group)
  pub tail : List (List Group)
  pub is : blocks ≡ front ++ tail
  pub each : All (IsBlock shape.columns shape.kinds.now) tail
  pub rise : Rise kept.columns (map key_of (groups_of tail))
  pub left : rest ≡ blocks_bytes shape.kinds.now tail
  pub has : m ≡ kept_sum shape kept m0 (groups_of front)

-- so far, of whatever blocks these bytes are
pub record IsKeptUpTo (shape : Shape) (kept : Kept) (bytes rest : List ℕ) (m0 m : GroupsByKey) (at : ℕ) : Type 0 where
  pub begun : (blocks : List (List Group)) → All (IsBlock shape.columns shape.kinds.now) blocks → Rise kept.columns (map key_of (groups_of blocks)) → bytes ≡ blocks_bytes shape.kinds.now blocks → AreBegun shape kept blocks rest m0 m
  pub room : at + length rest ≤ length bytes

pub none_kept : (shape : Shape) (kept : Kept) (bytes : List ℕ) (m : GroupsByKey) → IsKeptUpTo shape kept bytes bytes m m 0
none_kept shape kept bytes m = record {
  begun = λ blocks all rise e. record { front = []; tail = blocks; is = refl; each = all; rise = rise; left = e; has = refl };
  room = omega arith;
}

-- what is left of the blocks begins with one, if there are bytes left
record BeginsWith (kinds : List Bool) (tail : List (List Group)) (rest : List ℕ) : Type 0 where
  pub block : List Group
  pub later : List (List Group)
  pub is : tail ≡ block ∷ later
  pub begins : rest ≡ section (block_bytes kinds block) ++ blocks_bytes kinds later

begins_with : (kinds : List Bool) (tail : List (List Group)) (rest : List ℕ) → rest ≡ blocks_bytes kinds tail → 0 < length rest → BeginsWith kinds tail rest
unfolding blocks_bytes
begins_with kinds [] rest e some = absurd (omega (arith, some, ap length e))
begins_with kinds (b ∷ later) rest e some = record { block = b; later = later; is = refl; begins = e }

no_blocks_left : (kinds : List Bool) (tail : List (List Group)) (rest : List ℕ) → rest ≡ blocks_bytes kinds tail → length rest ≡ 0 → tail ≡ []
unfolding blocks_bytes
no_blocks_left kinds [] rest e none = refl
no_blocks_left kinds (b ∷ later) rest e none =
    let long = section_long (block_bytes kinds b) in
    absurd (omega (arith, long, none, ap length e, length-append (section (block_bytes kinds b)) (flat_map (block_section kinds) later)))

pub few_bytes : (columns : ℕ) (kinds : List Bool) (block : List Group) → IsBlock columns kinds block → length (block_bytes kinds block) < 2 ^ 32
few_bytes columns kinds block is =
    let short = is.short in
    omega (arith, short)

groups_more : (front : List (List Group)) (block : List Group) → groups_of (front ++ block ∷ []) ≡ groups_of front ++ block
groups_more front block = flat_map-append {X = List Group} {A = Group} (λ b. b) front (block ∷ []) ∙ ap (λ (gs : List Group). groups_of front ++ gs) (append-nil block)

sum_more : (shape : Shape) (kept : Kept) (m : GroupsByKey) (xs ys : List Group) → kept_sum shape kept m (xs ++ ys) ≡ kept_sum shape kept (kept_sum shape kept m xs) ys
sum_more shape kept m [] ys = refl
sum_more shape kept m (x ∷ xs) ys = sum_more shape kept (kept_with kept m x.key (state_of shape x)) xs ys

-- what is kept of one block more
pub one_kept : (shape : Shape) (kept : Kept) (bytes rest after : List ℕ) (m0 m n : GroupsByKey) (at : ℕ) → IsKeptUpTo shape kept bytes rest m0 m at → 0 < length rest → length after < length rest
    → ((block : List Group) (later : List (List Group)) → IsBlock shape.columns shape.kinds.now block → All (IsBlock shape.columns shape.kinds.now) later → Rise kept.columns (map key_of (groups_of (block ∷ later)))
    → rest ≡ section (block_bytes shape.kinds.now block) ++ blocks_bytes shape.kinds.now later → (after ≡ blocks_bytes shape.kinds.now later) × (n ≡ kept_sum shape kept m block))
    → IsKeptUpTo shape kept bytes after m0 n (at + 1)
one_kept shape kept bytes rest after m0 m n at is some shorter keeps =
    let room = is.room in
    record { begun = go; room = omega (arith, room, shorter) }
  where
    go : (blocks : List (List Group)) → All (IsBlock shape.columns shape.kinds.now) blocks → Rise kept.columns (map key_of (groups_of blocks)) → bytes ≡ blocks_bytes shape.kinds.now blocks → AreBegun shape kept blocks after m0 n
    go blocks all rise e =
        let b = is.begun blocks all rise e in
        let f = begins_with shape.kinds.now b.tail rest b.left some in
        let each = subst (λ (bs : List (List Group)). All (IsBlock shape.columns shape.kinds.now) bs) f.is b.each in
        let rises = subst (λ (bs : List (List Group)). Rise kept.columns (map key_of (groups_of bs))) f.is b.rise in
        let later = All-tail (IsBlock shape.columns shape.kinds.now) f.block f.later each in
        let did = keeps f.block f.later (All-head (IsBlock shape.columns shape.kinds.now) f.block f.later each) later rises f.begins in
        record {
          front = b.front ++ f.block ∷ [];
          tail = f.later;
          is = b.is ∙ ap (λ (bs : List (List Group)). b.front ++ bs) f.is ∙ sym (append_assoc b.front (f.block ∷ []) f.later);
          each = later;
          rise = rise_later kept.columns f.block (groups_of f.later) rises;
          left = did.0;
          has = did.1 ∙ ap (λ (x : GroupsByKey). kept_sum shape kept x f.block) b.has ∙ sym (sum_more shape kept m0 (groups_of b.front) f.block) ∙ ap (kept_sum shape kept m0) (sym (groups_more b.front f.block));
        }

-- what is kept of all blocks
pub all_kept : (shape : Shape) (kept : Kept) (bytes rest : List ℕ) (m0 m : GroupsByKey) (at : ℕ) → IsKeptUpTo shape kept bytes rest m0 m at → length rest ≡ 0
    → (blocks : List (List Group)) → All (IsBlock shape.columns shape.kinds.now) blocks → Rise kept.columns (map key_of (groups_of blocks)) → bytes ≡ blocks_bytes shape.kinds.now blocks → m ≡ kept_sum shape kept m0 (groups_of blocks)
all_kept shape kept bytes rest m0 m at is none blocks all rise e =
    let b = is.begun blocks all rise e in
    let whole = b.is ∙ ap (λ (bs : List (List Group)). b.front ++ bs) (no_blocks_left shape.kinds.now b.tail rest b.left none) ∙ append-nil b.front in
    b.has ∙ ap (λ (bs : List (List Group)). kept_sum shape kept m0 (groups_of bs)) (sym whole)

-- the next block is not kept
pub not_kept : (shape : Shape) (kept : Kept) (bytes rest : List ℕ) (m0 m : GroupsByKey) (at : ℕ) (why : KeepFault) → IsKeptUpTo shape kept bytes rest m0 m at → 0 < length rest
    → ((block : List Group) (later : List (List Group)) → IsBlock shape.columns shape.kinds.now block → All (IsBlock shape.columns shape.kinds.now) later → Rise kept.columns (map key_of (groups_of (block ∷ later)))
    → rest ≡ section (block_bytes shape.kinds.now block) ++ blocks_bytes shape.kinds.now later → why ≡ fault.Memory)
    → (blocks : List (List Group)) → All (IsBlock shape.columns shape.kinds.now) blocks → Rise kept.columns (map key_of (groups_of blocks)) → bytes ≡ blocks_bytes shape.kinds.now blocks → why ≡ fault.Memory
not_kept shape kept bytes rest m0 m at why is some none blocks all rise e =
    let b = is.begun blocks all rise e in
    let f = begins_with shape.kinds.now b.tail rest b.left some in
    let each = subst (λ (bs : List (List Group)). All (IsBlock shape.columns shape.kinds.now) bs) f.is b.each in
    let rises = subst (λ (bs : List (List Group)). Rise kept.columns (map key_of (groups_of bs))) f.is b.rise in
    none f.block f.later (All-head (IsBlock shape.columns shape.kinds.now) f.block f.later each) (All-tail (IsBlock shape.columns shape.kinds.now) f.block f.later each) rises f.begins

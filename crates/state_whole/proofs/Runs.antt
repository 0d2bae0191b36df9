-- Blocks of a file, one after another: what is added so far.
use Rattle.std.proofs.Common.{◌≡◌, ◌<◌, ◌≤◌, ◌+◌, ◌^◌, ◌++◌, ◌∙◌, ℕ, Bool, List, [], ◌∷◌, All, ap, append_assoc, append-nil, arith, length, length-append, refl, subst, sym}
use Rattle.std.specs.List.{flat_map}
use Rattle.std.proofs.lemmas.Grind.{flat_map-append}
use Rattle.std.proofs.lemmas.List.Elements.{All-head, All-tail}
use Rattle.partial_agg.specs.Groups.{GroupsByKey}
use Rattle.state_blocks.specs.Blocks.{Group, IsBlock, IsTuple, block_bytes, block_section, blocks_bytes}
use Rattle.state_body.specs.Body.{groups_of}
use Rattle.state_body.proofs.Indexes.{section_long}
use Rattle.state_file.specs.Section.{section}
use Rattle.state_head.specs.Words.{Keys}
use Rattle.state_order.specs.declared.order.KeyOrder.{KeyOrder}
use Rattle.state_whole.specs.Adding.{CannotAdd, HasAdded}
use Rattle.state_whole.specs.declared.adding.FileCount.{FileCount}
use Rattle.state_whole.specs.declared.adding.GroupFault.{GroupFault}
use Rattle.state_whole.specs.declared.adding.Kept.{Kept}
use Rattle.state_whole.specs.declared.adding.Shape.{Shape}

-- some blocks are added, and these bytes are left of all
pub record AreBegun (shape : Shape) (kept : Kept) (range : Keys) (start : GroupsByKey) (groups : List Group) (blocks : List (List Group)) (rest : List ℕ) (m : GroupsByKey) (order : KeyOrder) (count : FileCount) : Type 0 where
  pub front : List (List Group)
  pub tail : List (List Group)
  pub is : blocks ≡ front ++ tail
  pub each : All (IsBlock shape.columns shape.kinds.now) tail
  pub left : rest ≡ blocks_bytes shape.kinds.now tail
  pub has : HasAdded shape kept range start (groups ++ groups_of front) m order count

-- so far, of whatever blocks these bytes are
pub record IsAddedUpTo (shape : Shape) (kept : Kept) (bytes rest : List ℕ) (m0 : GroupsByKey) (order0 : KeyOrder) (count0 : FileCount) (m : GroupsByKey) (order : KeyOrder) (count : FileCount) (at : ℕ) : Type 0 where
  pub begun : (start : GroupsByKey) (range : Keys) (groups : List Group) (blocks : List (List Group)) → HasAdded shape kept range start groups m0 order0 count0 → All (IsBlock shape.columns shape.kinds.now) blocks → bytes ≡ blocks_bytes shape.kinds.now blocks
      → AreBegun shape kept range start groups blocks rest m order count
  pub room : at + length rest ≤ length bytes
  pub few : count.groups + length rest ≤ count0.groups + length bytes

pub none_added : (shape : Shape) (kept : Kept) (bytes : List ℕ) (m : GroupsByKey) (order : KeyOrder) (count : FileCount) → IsAddedUpTo shape kept bytes bytes m order count m order count 0
none_added shape kept bytes m order count = record {
  begun = λ start range groups blocks has all e. record {
    front = [];
    tail = blocks;
    is = refl;
    each = all;
    left = e;
    has = subst (λ (gs : List Group). HasAdded shape kept range start gs m order count) (sym (append-nil groups)) has;
  };
  room = omega arith;
  few = omega arith;
}

-- what is left of the blocks begins with one, if there are bytes left
record BeginsWith (kinds : List Bool) (tail : List (List Group)) (rest : List ℕ) : Type 0 where
  pub block : List Group
  pub later : List (List Group)
  pub is : tail ≡ block ∷ later
  pub begins : rest ≡ section (block_bytes kinds block) ++ blocks_bytes kinds later

begins_with : (kinds : List Bool) (tail : List (List Group)) (rest : List ℕ) → rest ≡ blocks_bytes kinds tail → 0 < length rest → BeginsWith kinds tail rest
unfolding blocks_bytes
begins_with kinds [] rest e some = absurd (omega (arith, some, ap length e))
begins_with kinds (b ∷ later) rest e some = record { block = b; later = later; is = refl; begins = e }

no_blocks_left : (kinds : List Bool) (tail : List (List Group)) (rest : List ℕ) → rest ≡ blocks_bytes kinds tail → length rest ≡ 0 → tail ≡ []
unfolding blocks_bytes
no_blocks_left kinds [] rest e none = refl
no_blocks_left kinds (b ∷ later) rest e none =
    let long = section_long (block_bytes kinds b) in
    absurd (omega (arith, long, none, ap length e, length-append (section (block_bytes kinds b)) (flat_map (block_section kinds) later)))

few_bytes : (columns : ℕ) (kinds : List Bool) (block : List Group) → IsBlock columns kinds block → length (block_bytes kinds block) < 2 ^ 32
few_bytes columns kinds block is =
    let short = is.short in
    omega (arith, short)

groups_more : (front : List (List Group)) (block : List Group) → groups_of (front ++ block ∷ []) ≡ groups_of front ++ block
groups_more front block = flat_map-append {X = List Group} {A = Group} (λ b. b) front (block ∷ []) ∙ ap (λ (gs : List Group). groups_of front ++ gs) (append-nil block)

-- one block more is added
pub one_added : (shape : Shape) (kept : Kept) (bytes rest part after : List ℕ) (m0 m n : GroupsByKey) (order0 order next : KeyOrder) (count0 count more : FileCount) (at : ℕ) → IsAddedUpTo shape kept bytes rest m0 order0 count0 m order count at → 0 < length rest
    → length part + length after + 8 ≡ length rest → more.groups ≤ count.groups + length part
    → ((p r : List ℕ) → length p < 2 ^ 32 → rest ≡ section p ++ r → (part ≡ p) × (after ≡ r))
    → ((start : GroupsByKey) (range : Keys) (groups block : List Group) → HasAdded shape kept range start groups m order count → All (IsTuple shape.columns shape.kinds.now) block → part ≡ block_bytes shape.kinds.now block
    → HasAdded shape kept range start (groups ++ block) n next more)
    → IsAddedUpTo shape kept bytes after m0 order0 count0 n next more (at + 1)
one_added shape kept bytes rest part after m0 m n order0 order next count0 count more at is some long groups_many split adds =
    let room = is.room in
    let few = is.few in
    record { begun = go; room = omega (arith, room, long); few = omega (arith, few, long, groups_many) }
  where
    go : (start : GroupsByKey) (range : Keys) (groups : List Group) (blocks : List (List Group)) → HasAdded shape kept range start groups m0 order0 count0 → All (IsBlock shape.columns shape.kinds.now) blocks → bytes ≡ blocks_bytes shape.kinds.now blocks
        → AreBegun shape kept range start groups blocks after n next more
    go start range groups blocks has all e =
        let b = is.begun start range groups blocks has all e in
        let f = begins_with shape.kinds.now b.tail rest b.left some in
        let each = subst (λ (bs : List (List Group)). All (IsBlock shape.columns shape.kinds.now) bs) f.is b.each in
        let here = All-head (IsBlock shape.columns shape.kinds.now) f.block f.later each in
        let two = split (block_bytes shape.kinds.now f.block) (blocks_bytes shape.kinds.now f.later) (few_bytes shape.columns shape.kinds.now f.block here) f.begins in
        let did = adds start range (groups ++ groups_of b.front) f.block b.has here.each two.0 in
        record {
          front = b.front ++ f.block ∷ [];
          tail = f.later;
          is = b.is ∙ ap (λ (bs : List (List Group)). b.front ++ bs) f.is ∙ sym (append_assoc b.front (f.block ∷ []) f.later);
          each = All-tail (IsBlock shape.columns shape.kinds.now) f.block f.later each;
          left = two.1;
          has = subst (λ (gs : List Group). HasAdded shape kept range start gs n next more) (append_assoc groups (groups_of b.front) f.block ∙ ap (λ (gs : List Group). groups ++ gs) (sym (groups_more b.front f.block))) did;
        }

-- all blocks are added
pub all_added : (shape : Shape) (kept : Kept) (bytes rest : List ℕ) (m0 m : GroupsByKey) (order0 order : KeyOrder) (count0 count : FileCount) (at : ℕ) → IsAddedUpTo shape kept bytes rest m0 order0 count0 m order count at → length rest ≡ 0
    → (start : GroupsByKey) (range : Keys) (groups : List Group) (blocks : List (List Group)) → HasAdded shape kept range start groups m0 order0 count0 → All (IsBlock shape.columns shape.kinds.now) blocks → bytes ≡ blocks_bytes shape.kinds.now blocks
    → HasAdded shape kept range start (groups ++ groups_of blocks) m order count
all_added shape kept bytes rest m0 m order0 order count0 count at is none start range groups blocks has all e =
    let b = is.begun start range groups blocks has all e in
    let whole = b.is ∙ ap (λ (bs : List (List Group)). b.front ++ bs) (no_blocks_left shape.kinds.now b.tail rest b.left none) ∙ append-nil b.front in
    subst (λ (bs : List (List Group)). HasAdded shape kept range start (groups ++ groups_of bs) m order count) (sym whole) b.has

-- no section is read where a block is left
pub not_split : (shape : Shape) (kept : Kept) (bytes rest : List ℕ) (m0 m : GroupsByKey) (order0 order : KeyOrder) (count0 count : FileCount) (at : ℕ) → IsAddedUpTo shape kept bytes rest m0 order0 count0 m order count at → 0 < length rest
    → ((p r : List ℕ) → length p < 2 ^ 32 → rest ≡ section p ++ r → ⊥)
    → (start : GroupsByKey) (range : Keys) (groups : List Group) (blocks : List (List Group)) → HasAdded shape kept range start groups m0 order0 count0 → All (IsBlock shape.columns shape.kinds.now) blocks → bytes ≡ blocks_bytes shape.kinds.now blocks → ⊥
not_split shape kept bytes rest m0 m order0 order count0 count at is some none start range groups blocks has all e =
    let b = is.begun start range groups blocks has all e in
    let f = begins_with shape.kinds.now b.tail rest b.left some in
    let each = subst (λ (bs : List (List Group)). All (IsBlock shape.columns shape.kinds.now) bs) f.is b.each in
    none (block_bytes shape.kinds.now f.block) (blocks_bytes shape.kinds.now f.later) (few_bytes shape.columns shape.kinds.now f.block (All-head (IsBlock shape.columns shape.kinds.now) f.block f.later each)) f.begins

-- groups that cannot be added, with more after them
cannot_more : (shape : Shape) (range : Keys) (groups more : List Group) (why : GroupFault) → CannotAdd shape range groups why → CannotAdd shape range (groups ++ more) why
cannot_more shape range groups more why is = record {
  front = is.front;
  g = is.g;
  rest = is.rest ++ more;
  is = ap (λ (gs : List Group). gs ++ more) is.is ∙ append_assoc is.front (is.g ∷ is.rest) more;
  none = is.none;
}

-- the next block is not added
pub not_added : (shape : Shape) (kept : Kept) (bytes rest part after : List ℕ) (m0 m : GroupsByKey) (order0 order : KeyOrder) (count0 count : FileCount) (at : ℕ) (why : GroupFault) → IsAddedUpTo shape kept bytes rest m0 order0 count0 m order count at → 0 < length rest
    → ((p r : List ℕ) → length p < 2 ^ 32 → rest ≡ section p ++ r → (part ≡ p) × (after ≡ r))
    → ((start : GroupsByKey) (range : Keys) (groups block : List Group) → HasAdded shape kept range start groups m order count → All (IsTuple shape.columns shape.kinds.now) block → part ≡ block_bytes shape.kinds.now block → CannotAdd shape range (groups ++ block) why)
    → (start : GroupsByKey) (range : Keys) (groups : List Group) (blocks : List (List Group)) → HasAdded shape kept range start groups m0 order0 count0 → All (IsBlock shape.columns shape.kinds.now) blocks → bytes ≡ blocks_bytes shape.kinds.now blocks
    → CannotAdd shape range (groups ++ groups_of blocks) why
not_added shape kept bytes rest part after m0 m order0 order count0 count at why is some split none start range groups blocks has all e =
    let b = is.begun start range groups blocks has all e in
    let f = begins_with shape.kinds.now b.tail rest b.left some in
    let each = subst (λ (bs : List (List Group)). All (IsBlock shape.columns shape.kinds.now) bs) f.is b.each in
    let here = All-head (IsBlock shape.columns shape.kinds.now) f.block f.later each in
    let two = split (block_bytes shape.kinds.now f.block) (blocks_bytes shape.kinds.now f.later) (few_bytes shape.columns shape.kinds.now f.block here) f.begins in
    let bad = none start range (groups ++ groups_of b.front) f.block b.has here.each two.0 in
    subst (λ (gs : List Group). CannotAdd shape range gs why) (whole b.front b.tail f.block f.later b.is f.is) (cannot_more shape range ((groups ++ groups_of b.front) ++ f.block) (groups_of f.later) why bad)
  where
    whole : (front tail : List (List Group)) (block : List Group) (later : List (List Group)) → blocks ≡ front ++ tail → tail ≡ block ∷ later → ((groups ++ groups_of front) ++ block) ++ groups_of later ≡ groups ++ groups_of blocks
    whole front tail block later e1 e2 =
        append_assoc (groups ++ groups_of front) block (groups_of later) ∙ append_assoc groups (groups_of front) (block ++ groups_of later)
        ∙ ap (λ (gs : List Group). groups ++ gs) (sym (ap groups_of (e1 ∙ ap (λ (bs : List (List Group)). front ++ bs) e2) ∙ flat_map-append {X = List Group} {A = Group} (λ b. b) front (block ∷ later)))

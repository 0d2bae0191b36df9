-- The blocks of a file, one after another: what is read of them so far.
use Rattle.std.proofs.Common.{◌≡◌, ◌<◌, ◌≤◌, ◌+◌, ◌^◌, ◌++◌, ◌∙◌, ◌⊎◌, inl, inr, ℕ, Bool, List, [], ◌∷◌, All, ap, append_assoc, append-nil, arith, length, length-append, map, refl, subst, sym}
use Rattle.std.specs.List.{flat_map}
use Rattle.std.proofs.lemmas.List.Folds.{flat_map-map}
use Rattle.std.proofs.lemmas.List.{map-append}
use Rattle.std.proofs.lemmas.List.Elements.{All-cons, All-head, All-nil, All-push, All-tail}
use Rattle.state_blocks.specs.Blocks.{Group, IsBlock, block_bytes, blocks_bytes, tuple_bytes}
use Rattle.state_blocks.proofs.Tuples.{tuple_some}
use Rattle.state_body.specs.Body.{IsIndex, Knows, Takes, groups_of}
use Rattle.state_body.specs.Faults.{AreNoBlocks, HasBadBlock, HasNoBlock, HasNoGroup, IsNoBlock, IsNoPart}
use Rattle.state_body.specs.declared.body.BodyFault.{BodyFault}
use Rattle.state_body.specs.declared.body.BodyFault.TheVariants.{Block, Cut, End, Foot, Memory, OtherFoot}
use Rattle.state_body.specs.declared.body.BodyFault.TheVariants as fault
use Rattle.state_body.specs.declared.index.Index.{Index}
use Rattle.state_file.specs.Section.{IsNoSection, section}
use Rattle.state_file.specs.declared.section.SectionRead.{SectionRead}
use Rattle.state_body.proofs.Indexes.{section_long}
use Rattle.state_head.proofs.Reading.{GoesOn, IsReadTo, Left, none_read, one_more}

-- ---- one block

-- a block of at least one byte has a first group
pub record HasFirst (kinds : List Bool) (block : List Group) (part : List ℕ) : Type 0 where
  pub g : Group
  pub later : List Group
  pub is : block ≡ g ∷ later
  pub begins : part ≡ tuple_bytes kinds g ++ flat_map (tuple_bytes kinds) later

pub has_first : (kinds : List Bool) (block : List Group) (part : List ℕ) → part ≡ block_bytes kinds block → 0 < length part → HasFirst kinds block part
unfolding block_bytes
has_first kinds [] part e some = absurd (omega (arith, some, ap length e))
has_first kinds (g ∷ later) part e some = record { g = g; later = later; is = refl; begins = e }

has_bytes : (kinds : List Bool) (block : List Group) → 0 < length block → 0 < length (block_bytes kinds block)
unfolding block_bytes
has_bytes kinds [] some = absurd (omega (arith, some))
has_bytes kinds (g ∷ later) some =
    let one = tuple_some kinds g in
    omega (arith, one, length-append (tuple_bytes kinds g) (flat_map (tuple_bytes kinds) later))

-- ---- several blocks, by the bytes of each

-- the parts of some blocks were written, and the end of the blocks after them
pub record Wrote (columns : ℕ) (kinds : List Bool) (parts : List (List ℕ)) (more : List ℕ) : Type 0 where
  pub blocks : List (List Group)
  pub parts_are : parts ≡ map (block_bytes kinds) blocks
  pub each : All (IsBlock columns kinds) blocks
  pub rest : List ℕ
  pub ends : more ≡ section [] ++ rest

abbrev pub AnyParts : List (List ℕ) → Type 0
AnyParts parts = Unit {0}

-- this many blocks are read
pub record IsBodyTo (columns : ℕ) (kinds : List Bool) (bytes : List ℕ) (old index : Index) (rest : List ℕ) (at : ℕ) : Type 0 where
  pub parts : List (List ℕ)
  pub blocks : List (List Group)
  pub parts_are : parts ≡ map (block_bytes kinds) blocks
  pub each : All (IsBlock columns kinds) blocks
  pub so_far : IsReadTo section AnyParts (Wrote columns kinds) bytes parts rest
  pub known : Knows columns kinds old.at parts old index
  pub at_is : index.at + length rest ≡ old.at + length bytes
  pub blocks_few : index.blocks + length rest ≤ length bytes
  pub groups_few : index.groups + length rest ≤ length bytes
  pub room : at + length rest ≤ length bytes

parts_none : (kinds : List Bool) (blocks : List (List Group)) → [] ≡ map (block_bytes kinds) blocks → blocks ≡ []
parts_none kinds [] e = refl
parts_none kinds (b ∷ blocks) e = absurd (omega (arith, ap length e))

pub no_block : (columns : ℕ) (kinds : List Bool) (bytes : List ℕ) (old : Index) → old.blocks ≡ 0 → old.groups ≡ 0 → IsBodyTo columns kinds bytes old old bytes 0
no_block columns kinds bytes old blocks groups = record {
  parts = [];
  blocks = [];
  parts_are = refl;
  each = All-nil (IsBlock columns kinds);
  so_far = none_read section AnyParts (Wrote columns kinds) bytes tt;
  known = λ bs e all is. subst (λ (xs : List (List Group)). IsIndex kinds old.at xs old) (sym (parts_none kinds bs e)) is;
  at_is = refl;
  blocks_few = omega (arith, blocks);
  groups_few = omega (arith, groups);
  room = omega arith;
}

-- blocks by their parts, of which one is the last
record HasLast (kinds : List Bool) (blocks : List (List Group)) (parts : List (List ℕ)) (part : List ℕ) : Type 0 where
  pub front : List (List Group)
  pub last : List Group
  pub is : blocks ≡ front ++ last ∷ []
  pub front_is : parts ≡ map (block_bytes kinds) front
  pub last_is : part ≡ block_bytes kinds last

has_last : (kinds : List Bool) (blocks : List (List Group)) (parts : List (List ℕ)) (part : List ℕ) → parts ++ part ∷ [] ≡ map (block_bytes kinds) blocks → HasLast kinds blocks parts part
has_last kinds [] parts part e = absurd (omega (arith, ap length e, length-append parts (part ∷ [])))
has_last kinds (b ∷ []) [] part e = record { front = []; last = b; is = refl; front_is = refl; last_is = cc }
has_last kinds (b ∷ c ∷ blocks) [] part e = absurd (omega (arith, ap length e))
has_last kinds (b ∷ blocks) (p ∷ parts) part e =
    let l = has_last kinds blocks parts part (tail_of e) in
    record { front = b ∷ l.front; last = l.last; is = ap (λ (bs : List (List Group)). b ∷ bs) l.is; front_is = ap (λ (ps : List (List ℕ)). p ∷ ps) l.front_is ∙ ap (λ (q : List ℕ). q ∷ map (block_bytes kinds) l.front) (head_of e); last_is = l.last_is }
  where
    head_of : p ∷ (parts ++ part ∷ []) ≡ block_bytes kinds b ∷ map (block_bytes kinds) blocks → p ≡ block_bytes kinds b
    head_of f = cc

    tail_of : p ∷ (parts ++ part ∷ []) ≡ block_bytes kinds b ∷ map (block_bytes kinds) blocks → parts ++ part ∷ [] ≡ map (block_bytes kinds) blocks
    tail_of f = cc

all_front : (columns : ℕ) (kinds : List Bool) (front : List (List Group)) (last : List Group) → All (IsBlock columns kinds) (front ++ last ∷ []) → All (IsBlock columns kinds) front × IsBlock columns kinds last
all_front columns kinds [] last all = (All-nil (IsBlock columns kinds), All-head (IsBlock columns kinds) last [] all)
all_front columns kinds (b ∷ front) last all =
    let later = all_front columns kinds front last (All-tail (IsBlock columns kinds) b (front ++ last ∷ []) all) in
    (All-cons (IsBlock columns kinds) b front (All-head (IsBlock columns kinds) b (front ++ last ∷ []) all) later.0, later.1)

-- these are the bytes of a block
pub record IsOfBlock (columns : ℕ) (kinds : List Bool) (part : List ℕ) : Type 0 where
  pub block : List Group
  pub is : part ≡ block_bytes kinds block
  pub is_block : IsBlock columns kinds block

-- after all parts that were written comes the end of the blocks
pub record IsEnd (rest : List ℕ) (tail : List (List ℕ)) (more : List ℕ) : Type 0 where
  pub after : List ℕ
  pub none : tail ≡ []
  pub ends : rest ≡ section [] ++ after
  pub same : more ≡ section [] ++ after

-- or one more, of the bytes of a block
pub record IsMore (columns : ℕ) (kinds : List Bool) (rest : List ℕ) (tail : List (List ℕ)) (more : List ℕ) : Type 0 where
  pub part : List ℕ
  pub later : List (List ℕ)
  pub of_block : IsOfBlock columns kinds part
  pub is : tail ≡ part ∷ later
  pub begins : rest ≡ section part ++ (flat_map section later ++ more)

part_of : (columns : ℕ) (kinds : List Bool) (found : List (List ℕ)) (part : List ℕ) (later : List (List ℕ)) (blocks : List (List Group)) → found ++ part ∷ later ≡ map (block_bytes kinds) blocks → All (IsBlock columns kinds) blocks
    → IsOfBlock columns kinds part
part_of columns kinds [] part later [] e all = absurd (omega (arith, ap length e))
part_of columns kinds (f ∷ found) part later [] e all = absurd (omega (arith, ap length e))
part_of columns kinds [] part later (b ∷ blocks) e all = record { block = b; is = head_of e; is_block = All-head (IsBlock columns kinds) b blocks all }
  where
    head_of : part ∷ later ≡ block_bytes kinds b ∷ map (block_bytes kinds) blocks → part ≡ block_bytes kinds b
    head_of f = cc
part_of columns kinds (f ∷ found) part later (b ∷ blocks) e all = part_of columns kinds found part later blocks (tail_of e) (All-tail (IsBlock columns kinds) b blocks all)
  where
    tail_of : f ∷ (found ++ part ∷ later) ≡ block_bytes kinds b ∷ map (block_bytes kinds) blocks → found ++ part ∷ later ≡ map (block_bytes kinds) blocks
    tail_of g = cc

next_part : (columns : ℕ) (kinds : List Bool) (found : List (List ℕ)) (rest : List ℕ) (all : List (List ℕ)) (more : List ℕ) → Wrote columns kinds all more → (l : Left section all found rest more)
    → IsEnd rest l.tail more ⊎ IsMore columns kinds rest l.tail more
next_part columns kinds found rest all more wrote l = go l.tail l.whole l.left
  where
    go : (tail : List (List ℕ)) → all ≡ found ++ tail → rest ≡ flat_map section tail ++ more → IsEnd rest tail more ⊎ IsMore columns kinds rest tail more
    go [] e f = inl (record { after = wrote.rest; none = refl; ends = f ∙ wrote.ends; same = wrote.ends })
    go (p ∷ later) e f =
        inr (record { part = p; later = later; of_block = part_of columns kinds found p later wrote.blocks (sym e ∙ wrote.parts_are) wrote.each; is = refl; begins = f ∙ append_assoc (section p) (flat_map section later) more })

some_of : (columns : ℕ) (kinds : List Bool) (part : List ℕ) → IsOfBlock columns kinds part → 0 < length part
some_of columns kinds part is =
    let some = has_bytes kinds is.block is.is_block.some in
    omega (arith, some, ap length is.is)

short_of : (columns : ℕ) (kinds : List Bool) (part : List ℕ) → IsOfBlock columns kinds part → length part ≤ 2 ^ 20
short_of columns kinds part is =
    let short = is.is_block.short in
    omega (arith, short, ap length is.is)

no_bytes : (part : List ℕ) → part ≡ [] → 0 < length part → ⊥
no_bytes part e some = omega (arith, some, ap length e)

parts_more : (kinds : List Bool) (parts : List (List ℕ)) (blocks : List (List Group)) (part : List ℕ) (block : List Group) → parts ≡ map (block_bytes kinds) blocks → part ≡ block_bytes kinds block
    → parts ++ part ∷ [] ≡ map (block_bytes kinds) (blocks ++ block ∷ [])
parts_more kinds parts blocks part block e f =
    ap (λ (ps : List (List ℕ)). ps ++ part ∷ []) e ∙ ap (λ (p : List ℕ). map (block_bytes kinds) blocks ++ p ∷ []) f ∙ sym (map-append (block_bytes kinds) blocks (block ∷ []))

-- one block more is read
pub block_more : (columns : ℕ) (kinds : List Bool) (bytes : List ℕ) (old index new : Index) (rest : List ℕ) (at : ℕ) (part after : List ℕ) → IsBodyTo columns kinds bytes old index rest at → rest ≡ section part ++ after → 0 < length part
    → ((p r : List ℕ) → length p ≤ 2 ^ 20 → rest ≡ section p ++ r → (part ≡ p) × (after ≡ r)) → Takes columns kinds part index new → new.at ≡ index.at + length part + 8 → new.blocks ≡ index.blocks + 1
    → new.groups ≤ index.groups + length part → IsBodyTo columns kinds bytes old new after (at + 1)
block_more columns kinds bytes old index new rest at part after is e some same takes at_new blocks_new groups_new =
    let long = ap length e ∙ length-append (section part) after in
    let size = section_long part in
    let at_is = is.at_is in
    let blocks_few = is.blocks_few in
    let groups_few = is.groups_few in
    let room = is.room in
    record {
      parts = is.parts ++ part ∷ [];
      blocks = is.blocks ++ takes.block ∷ [];
      parts_are = parts_more kinds is.parts is.blocks part takes.block is.parts_are takes.is;
      each = All-push (IsBlock columns kinds) is.blocks takes.block is.each takes.is_block;
      so_far = one_more section AnyParts (Wrote columns kinds) bytes is.parts rest part after is.so_far e tt (λ all more wrote l. goes l.tail more (next_part columns kinds is.parts rest all more wrote l));
      known = λ bs f all none. knows bs (has_last kinds bs is.parts part f) all none;
      at_is = omega (arith, long, size, at_is, at_new);
      blocks_few = omega (arith, long, size, blocks_few, blocks_new);
      groups_few = omega (arith, long, size, groups_few, groups_new);
      room = omega (arith, long, size, room);
    }
  where
    goes : (tail : List (List ℕ)) (more : List ℕ) → IsEnd rest tail more ⊎ IsMore columns kinds rest tail more → GoesOn section tail more part after
    goes tail more (inl end) = absurd (no_bytes part (same [] end.after (omega arith) end.ends).0 some)
    goes tail more (inr next) =
        let m = same next.part (flat_map section next.later ++ more) (short_of columns kinds next.part next.of_block) next.begins in
        record { later = next.later; is = next.is ∙ ap (λ (p : List ℕ). p ∷ next.later) (sym m.0); left = m.1 }

    knows : (bs : List (List Group)) → HasLast kinds bs is.parts part → All (IsBlock columns kinds) bs → IsIndex kinds old.at [] old → IsIndex kinds old.at bs new
    knows bs l all none =
        let a = all_front columns kinds l.front l.last (subst (λ (xs : List (List Group)). All (IsBlock columns kinds) xs) l.is all) in
        subst (λ (xs : List (List Group)). IsIndex kinds old.at xs new) (sym l.is) (takes.known l.last a.1 l.last_is old.at l.front (is.known l.front l.front_is a.0 none))

-- the end of the blocks is read
pub record AreRead (columns : ℕ) (kinds : List Bool) (bytes : List ℕ) (old index : Index) (after : List ℕ) : Type 0 where
  pub blocks : List (List Group)
  pub each : All (IsBlock columns kinds) blocks
  pub is : bytes ≡ blocks_bytes kinds blocks ++ (section [] ++ after)
  pub known : Knows columns kinds old.at (map (block_bytes kinds) blocks) old index

sections : (kinds : List Bool) (blocks : List (List Group)) → flat_map section (map (block_bytes kinds) blocks) ≡ blocks_bytes kinds blocks
unfolding blocks_bytes
sections kinds blocks = flat_map-map section (block_bytes kinds) blocks

pub all_read : (columns : ℕ) (kinds : List Bool) (bytes : List ℕ) (old index : Index) (rest : List ℕ) (at : ℕ) (part after : List ℕ) → IsBodyTo columns kinds bytes old index rest at → rest ≡ section part ++ after → part ≡ []
    → AreRead columns kinds bytes old index after
all_read columns kinds bytes old index rest at part after is e none = record {
  blocks = is.blocks;
  each = is.each;
  is = is.so_far.read ∙ ap (λ (bs : List ℕ). flat_map section is.parts ++ bs) (e ∙ ap (λ (p : List ℕ). section p ++ after) none)
      ∙ ap (λ (bs : List ℕ). bs ++ (section [] ++ after)) (ap (λ (ps : List (List ℕ)). flat_map section ps) is.parts_are ∙ sections kinds is.blocks);
  known = subst (λ (ps : List (List ℕ)). Knows columns kinds old.at ps old index) is.parts_are is.known;
}

cancel : (front a b : List ℕ) → front ++ a ≡ front ++ b → a ≡ b
cancel [] a b e = e
cancel (x ∷ front) a b e = cancel front a b (tail_of e)
  where
    tail_of : x ∷ (front ++ a) ≡ x ∷ (front ++ b) → front ++ a ≡ front ++ b
    tail_of f = cc

same_end : (a b : List ℕ) → section [] ++ a ≡ section [] ++ b → a ≡ b
same_end a b e = cancel (section []) a b e

-- what is left of blocks that were written
left_of : (columns : ℕ) (kinds : List Bool) (bytes : List ℕ) (old index : Index) (rest : List ℕ) (at : ℕ) → (is : IsBodyTo columns kinds bytes old index rest at) → (blocks : List (List Group)) (more : List ℕ) → All (IsBlock columns kinds) blocks
    → bytes ≡ blocks_bytes kinds blocks ++ (section [] ++ more) → (l : Left section (map (block_bytes kinds) blocks) is.parts rest (section [] ++ more)) × (IsEnd rest l.tail (section [] ++ more) ⊎ IsMore columns kinds rest l.tail (section [] ++ more))
left_of columns kinds bytes old index rest at is blocks more all f = (l, next_part columns kinds is.parts rest (map (block_bytes kinds) blocks) (section [] ++ more) wrote l)
  where
    wrote : Wrote columns kinds (map (block_bytes kinds) blocks) (section [] ++ more)
    wrote = record { blocks = blocks; parts_are = refl; each = all; rest = more; ends = refl }

    l : Left section (map (block_bytes kinds) blocks) is.parts rest (section [] ++ more)
    l = is.so_far.left (map (block_bytes kinds) blocks) (section [] ++ more) wrote (f ∙ ap (λ (bs : List ℕ). bs ++ (section [] ++ more)) (sym (sections kinds blocks)))

-- no section is read where blocks were written
pub block_none : (columns : ℕ) (kinds : List Bool) (bytes : List ℕ) (old index : Index) (rest : List ℕ) (at : ℕ) → IsBodyTo columns kinds bytes old index rest at → ((p r : List ℕ) → length p ≤ 2 ^ 20 → rest ≡ section p ++ r → ⊥)
    → (blocks : List (List Group)) (more : List ℕ) → All (IsBlock columns kinds) blocks → bytes ≡ blocks_bytes kinds blocks ++ (section [] ++ more) → ⊥
block_none columns kinds bytes old index rest at is none blocks more all f = let l = left_of columns kinds bytes old index rest at is blocks more all f in go l.0.tail l.1
  where
    go : (tail : List (List ℕ)) → IsEnd rest tail (section [] ++ more) ⊎ IsMore columns kinds rest tail (section [] ++ more) → ⊥
    go tail (inl end) = none [] end.after (omega arith) end.ends
    go tail (inr next) = none next.part (flat_map section next.later ++ (section [] ++ more)) (short_of columns kinds next.part next.of_block) next.begins

-- a section of some bytes that is read where blocks were written is one of them
pub part_written : (columns : ℕ) (kinds : List Bool) (bytes : List ℕ) (old index : Index) (rest : List ℕ) (at : ℕ) (part after : List ℕ) → IsBodyTo columns kinds bytes old index rest at → 0 < length part
    → ((p r : List ℕ) → length p ≤ 2 ^ 20 → rest ≡ section p ++ r → (part ≡ p) × (after ≡ r))
    → (blocks : List (List Group)) (more : List ℕ) → All (IsBlock columns kinds) blocks → bytes ≡ blocks_bytes kinds blocks ++ (section [] ++ more) → IsOfBlock columns kinds part
part_written columns kinds bytes old index rest at part after is some same blocks more all f = let l = left_of columns kinds bytes old index rest at is blocks more all f in go l.0.tail l.1
  where
    go : (tail : List (List ℕ)) → IsEnd rest tail (section [] ++ more) ⊎ IsMore columns kinds rest tail (section [] ++ more) → IsOfBlock columns kinds part
    go tail (inl end) = absurd (no_bytes part (same [] end.after (omega arith) end.ends).0 some)
    go tail (inr next) =
        let m = same next.part (flat_map section next.later ++ (section [] ++ more)) (short_of columns kinds next.part next.of_block) next.begins in
        subst (λ (p : List ℕ). IsOfBlock columns kinds p) (sym m.0) next.of_block

-- what was written is what is read
pub all_written : (columns : ℕ) (kinds : List Bool) (bytes : List ℕ) (old index : Index) (rest : List ℕ) (at : ℕ) (part after : List ℕ) → IsBodyTo columns kinds bytes old index rest at → rest ≡ section part ++ after → part ≡ []
    → ((p r : List ℕ) → length p ≤ 2 ^ 20 → rest ≡ section p ++ r → (part ≡ p) × (after ≡ r))
    → (blocks : List (List Group)) (more : List ℕ) → All (IsBlock columns kinds) blocks → bytes ≡ blocks_bytes kinds blocks ++ (section [] ++ more) → (after ≡ more) × (IsIndex kinds old.at [] old → IsIndex kinds old.at blocks index)
all_written columns kinds bytes old index rest at part after is e none same blocks more all f = let l = left_of columns kinds bytes old index rest at is blocks more all f in go l.0.tail l.0.whole l.1
  where
    go : (tail : List (List ℕ)) → map (block_bytes kinds) blocks ≡ is.parts ++ tail → IsEnd rest tail (section [] ++ more) ⊎ IsMore columns kinds rest tail (section [] ++ more)
        → (after ≡ more) × (IsIndex kinds old.at [] old → IsIndex kinds old.at blocks index)
    go tail g (inl end) =
        let mine = same [] end.after (omega arith) end.ends in
        let whole = g ∙ ap (λ (t : List (List ℕ)). is.parts ++ t) end.none ∙ append-nil is.parts in
        (mine.1 ∙ same_end end.after more (sym end.same), λ i. is.known blocks (sym whole) all i)
    go tail g (inr next) =
        let m = same next.part (flat_map section next.later ++ (section [] ++ more)) (short_of columns kinds next.part next.of_block) next.begins in
        absurd (no_bytes next.part (sym m.0 ∙ none) (some_of columns kinds next.part next.of_block))

blocks_read : (columns : ℕ) (kinds : List Bool) (bytes : List ℕ) (old index : Index) (rest : List ℕ) (at : ℕ) → (is : IsBodyTo columns kinds bytes old index rest at) → bytes ≡ blocks_bytes kinds is.blocks ++ rest
blocks_read columns kinds bytes old index rest at is =
    is.so_far.read ∙ ap (λ (bs : List ℕ). bs ++ rest) (ap (λ (ps : List (List ℕ)). flat_map section ps) is.parts_are ∙ sections kinds is.blocks)

groups_read : (columns : ℕ) (kinds : List Bool) (bytes : List ℕ) (old index : Index) (rest : List ℕ) (at : ℕ) → (is : IsBodyTo columns kinds bytes old index rest at) → IsIndex kinds old.at [] old → index.groups ≡ length (groups_of is.blocks)
groups_read columns kinds bytes old index rest at is none = (is.known is.blocks is.parts_are is.each none).groups_many

-- after the blocks that are read there is no section
pub no_section : (columns : ℕ) (kinds : List Bool) (bytes : List ℕ) (old index : Index) (rest : List ℕ) (at : ℕ) (why : SectionRead) → IsBodyTo columns kinds bytes old index rest at → IsNoSection (2 ^ 20) rest why → HasNoBlock columns kinds bytes why
no_section columns kinds bytes old index rest at why is none =
    record { blocks = is.blocks; each = is.each; rest = rest; is = blocks_read columns kinds bytes old index rest at is; none = none }

-- or one of bytes that are no block
pub bad_block : (columns : ℕ) (kinds : List Bool) (bytes : List ℕ) (old index : Index) (rest : List ℕ) (at : ℕ) (part after : List ℕ) (number : ℕ) → IsBodyTo columns kinds bytes old index rest at → IsIndex kinds old.at [] old
    → rest ≡ section part ++ after → HasNoGroup columns kinds part index.groups number → HasBadBlock columns kinds bytes number
bad_block columns kinds bytes old index rest at part after number is none e bad = record {
  blocks = is.blocks;
  each = is.each;
  part = part;
  rest = after;
  is = blocks_read columns kinds bytes old index rest at is ∙ ap (λ (bs : List ℕ). blocks_bytes kinds is.blocks ++ bs) e;
  none = subst (λ (n : ℕ). HasNoGroup columns kinds part n number) (groups_read columns kinds bytes old index rest at is none) bad;
}

-- the same of a cause
pub part_none : (columns : ℕ) (kinds : List Bool) (bytes : List ℕ) (old index : Index) (rest : List ℕ) (at : ℕ) → IsBodyTo columns kinds bytes old index rest at → (why : BodyFault) → IsNoPart rest why → AreNoBlocks columns kinds bytes why
part_none columns kinds bytes old index rest at is Memory none = absurd none
part_none columns kinds bytes old index rest at is (Block why) none = no_section columns kinds bytes old index rest at why is none
part_none columns kinds bytes old index rest at is (fault.Group number) none = absurd none
part_none columns kinds bytes old index rest at is (Foot why) none = absurd none
part_none columns kinds bytes old index rest at is OtherFoot none = absurd none
part_none columns kinds bytes old index rest at is Cut none = absurd none
part_none columns kinds bytes old index rest at is End none = absurd none

pub block_fails : (columns : ℕ) (kinds : List Bool) (bytes : List ℕ) (old index : Index) (rest : List ℕ) (at : ℕ) (part after : List ℕ) → IsBodyTo columns kinds bytes old index rest at → IsIndex kinds old.at [] old → rest ≡ section part ++ after
    → (why : BodyFault) → IsNoBlock columns kinds part index.groups why → AreNoBlocks columns kinds bytes why
block_fails columns kinds bytes old index rest at part after is start e Memory none = tt
block_fails columns kinds bytes old index rest at part after is start e (Block why) none = absurd none
block_fails columns kinds bytes old index rest at part after is start e (fault.Group number) none = bad_block columns kinds bytes old index rest at part after number is start e none
block_fails columns kinds bytes old index rest at part after is start e (Foot why) none = absurd none
block_fails columns kinds bytes old index rest at part after is start e OtherFoot none = absurd none
block_fails columns kinds bytes old index rest at part after is start e Cut none = absurd none
block_fails columns kinds bytes old index rest at part after is start e End none = absurd none

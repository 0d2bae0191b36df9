-- Groups that rows can give fit into blocks: a tuple is short, and a block is ended before it is long.
use Rattle.std.proofs.Common.{inl, inr, ◌≡◌, ◌<◌, ◌≤◌, ◌+◌, ◌*◌, ◌%◌, ◌/◌, ◌^◌, ◌++◌, ◌&&◌, ◌∙◌, zero, suc, ℕ, Bool, false, true, List, [], ◌∷◌, All, ap, append-nil, arith, cond, fold, get_or, leb-false, leb-true, length, length-append, map, nat_le, nat_lt, refl, subst, sym}
use Rattle.std.specs.List.{AllZip, flat_map}
use Rattle.std.proofs.lemmas.Grind.{flat_map-append}
use Rattle.std.proofs.lemmas.List.{length-map}
use Rattle.std.proofs.lemmas.List.Elements.{All-head, All-nil, All-push, All-tail}
use Rattle.std.proofs.lemmas.List.Sorted.{length_permutation}
use Rattle.par_model.specs.declared.state.SlotState.{SlotState}
use Rattle.partial_agg.specs.declared.groups.Group.{Group as MapGroup}
use Rattle.state_blocks.specs.Blocks.{Group, IsTuple, block_bytes, block_section, blocks_bytes, tuple_bytes}
use Rattle.state_body.specs.Body.{foot_bytes, groups_of}
use Rattle.state_body.proofs.Indexes.{section_long}
use Rattle.state_file.specs.Number.{folded, number_bytes, sevens}
use Rattle.state_file.specs.Section.{section}
use Rattle.state_file.specs.Text.{text_bytes}
use Rattle.state_front.specs.Front.{front_bytes, name_bytes, version_bytes}
use Rattle.state_groups.specs.Group.{group_bytes, slots_bytes, values_bytes}
use Rattle.state_groups.specs.Slot.{has_integers, integers_bytes, slot_bytes, spread}
use Rattle.state_head.specs.Head.{Preface, head_bytes}
use Rattle.state_lanes.specs.Lanes.{has_numbers}
use Rattle.state_save.specs.Saving.{AreTuplesOf, IsLongFile, IsTold, LongIsKnown, tuple_of}
use Rattle.state_save.proofs.Files.{all_tuples}
use Rattle.state_whole.specs.Adding.{IsShape}
use Rattle.state_whole.specs.declared.adding.Shape.{Shape}
use Rattle.state_writer.specs.Writing.{Cut, Fit, FitInBlocks, IsShort, blocks_of, closed, cut, cut_more}
use Rattle.state_writer.proofs.Laws.{blocks_have}

-- ---- a tuple

few_sevens : (more n : ℕ) → length (sevens more n) ≤ more + 1
unfolding sevens
few_sevens zero n = omega arith
few_sevens (suc more) n = go (few_sevens more (n / 128)) (nat_lt n 128)
  where
    go : length (sevens more (n / 128)) ≤ more + 1 → (b : Bool) → length (cond b (n ∷ []) ((128 + n % 128) ∷ sevens more (n / 128))) ≤ suc more + 1
    go rest true = omega arith
    go rest false = omega (arith, rest)

few_number : (n : ℕ) → length (number_bytes n) ≤ 19
unfolding number_bytes
few_number n = few_sevens 18 n

few_text : (text : List ℕ) → length (text_bytes text) ≤ 19 + length text
unfolding text_bytes
few_text text = let number = few_number (length text) in omega (arith, number, length-append (number_bytes (length text)) text)

few_integers : (slot : SlotState) → length (integers_bytes slot) ≤ 57
few_integers slot =
    let sum = number_bytes (folded slot.sum) in
    let least = number_bytes (folded slot.least) in
    let above = number_bytes (spread slot) in
    let a = few_number (folded slot.sum) in
    let b = few_number (folded slot.least) in
    let c = few_number (spread slot) in
    omega (arith, a, b, c, length-append sum (least ++ above), length-append least above)

few_slot : (kind : Bool) (slot : SlotState) → length (slot_bytes kind slot) ≤ 76
unfolding slot_bytes
few_slot kind slot = go (has_integers kind slot.count)
  where
    go : (b : Bool) → length (number_bytes slot.count ++ cond b (integers_bytes slot) []) ≤ 76
    go true =
        let count = few_number slot.count in
        let rest = few_integers slot in
        omega (arith, count, rest, length-append (number_bytes slot.count) (integers_bytes slot))
    go false = let count = few_number slot.count in omega (arith, count, ap length (append-nil (number_bytes slot.count)))

few_slots : (kinds : List Bool) (slots : List SlotState) → length (slots_bytes kinds slots) ≤ 76 * length kinds
unfolding slots_bytes
few_slots [] slots = omega arith
few_slots (kind ∷ kinds) [] = omega arith
few_slots (kind ∷ kinds) (slot ∷ slots) =
    let one = few_slot kind slot in
    let rest = few_slots kinds slots in
    omega (arith, one, rest, length-append (slot_bytes kind slot) (slots_bytes kinds slots))

abbrev IsLow : List Bool → Group → Type 0
IsLow kinds g = length (tuple_bytes kinds g) ≤ 1000

low_tuple : (columns : ℕ) (kinds : List Bool) (g : Group) → length kinds ≤ 8 → IsTuple columns kinds g → IsLow kinds g
unfolding tuple_bytes
low_tuple columns kinds g few is =
    let short = is.is_key.short in
    let key = few_text g.key in
    let rows = few_number g.rows in
    let slots = few_slots kinds g.slots in
    omega (
      arith,
      few,
      short,
      key,
      rows,
      slots,
      length-append (text_bytes g.key) (values_bytes kinds g.rows g.slots),
      length-append (number_bytes g.rows) (slots_bytes kinds g.slots),
    )

-- ---- the blocks

block_push : (kinds : List Bool) (block : List Group) (g : Group) → length (block_bytes kinds (block ++ g ∷ [])) ≡ length (block_bytes kinds block) + length (tuple_bytes kinds g)
unfolding block_bytes
block_push kinds block g =
    ap length (flat_map-append (tuple_bytes kinds) block (g ∷ []) ∙ ap (λ (bs : List ℕ). flat_map (tuple_bytes kinds) block ++ bs) (append-nil (tuple_bytes kinds g)))
    ∙ length-append (flat_map (tuple_bytes kinds) block) (tuple_bytes kinds g)

-- the full blocks are short, and the one that is begun is not full
record IsShortCut (kinds : List Bool) (c : Cut) : Type 0 where
  full : All (IsShort kinds) c.full
  begun : length (block_bytes kinds c.begun) < 60_000

none_begun : (kinds : List Bool) → length (block_bytes kinds []) < 60_000
unfolding block_bytes
none_begun kinds = omega arith

more_short : (kinds : List Bool) (c : Cut) (g : Group) → IsShortCut kinds c → IsLow kinds g → IsShortCut kinds (cut_more kinds c g)
more_short kinds c g is low = go (nat_le 60_000 (length (block_bytes kinds (c.begun ++ g ∷ [])))) refl
  where
    size : length (block_bytes kinds (c.begun ++ g ∷ [])) ≡ length (block_bytes kinds c.begun) + length (tuple_bytes kinds g)
    size = block_push kinds c.begun g

    go : (b : Bool) → nat_le 60_000 (length (block_bytes kinds (c.begun ++ g ∷ []))) ≡ b
        → IsShortCut kinds (cond b (record { full = c.full ++ (c.begun ++ g ∷ []) ∷ []; begun = [] }) (record { full = c.full; begun = c.begun ++ g ∷ [] }))
    go true e =
        let before = is.begun in
        let some : 0 < length (c.begun ++ g ∷ []) = omega (arith, length-append c.begun (g ∷ [])) in
        record { full = All-push (IsShort kinds) c.full (c.begun ++ g ∷ []) is.full (record { some = some; short = omega (arith, before, low, size) }); begun = none_begun kinds }
    go false e = record { full = is.full; begun = leb-false 60_000 (length (block_bytes kinds (c.begun ++ g ∷ []))) e }

all_short : (kinds : List Bool) (c : Cut) (groups : List Group) → IsShortCut kinds c → All (IsLow kinds) groups → IsShortCut kinds (fold (cut_more kinds) c groups)
all_short kinds c [] is all = is
all_short kinds c (g ∷ groups) is all = all_short kinds (cut_more kinds c g) groups (more_short kinds c g is (All-head (IsLow kinds) g groups all)) (All-tail (IsLow kinds) g groups all)

cut_short : (kinds : List Bool) (groups : List Group) → All (IsLow kinds) groups → IsShortCut kinds (cut kinds groups)
unfolding cut
cut_short kinds groups all = all_short kinds (record { full = []; begun = [] }) groups (record { full = All-nil (IsShort kinds); begun = none_begun kinds }) all

closed_short : (kinds : List Bool) (full : List (List Group)) (begun : List Group) → All (IsShort kinds) full → length (block_bytes kinds begun) < 60_000 → All (IsShort kinds) (closed full begun)
closed_short kinds full [] all less = all
closed_short kinds full (g ∷ begun) all less = All-push (IsShort kinds) full (g ∷ begun) all (record { some = omega arith; short = omega (arith, less) })

blocks_short : (kinds : List Bool) (groups : List Group) → All (IsLow kinds) groups → All (IsShort kinds) (blocks_of kinds groups)
blocks_short kinds groups all =
    let is = cut_short kinds groups all in
    closed_short kinds (cut kinds groups).full (cut kinds groups).begun is.full is.begun

-- how many bytes they have
low_block : (kinds : List Bool) (block more : List Group) → All (IsLow kinds) (block ++ more) → (length (block_bytes kinds block) ≤ 1000 * length block) × All (IsLow kinds) more
unfolding block_bytes
low_block kinds [] more all = (omega arith, all)
low_block kinds (g ∷ block) more all =
    let here = All-head (IsLow kinds) g (block ++ more) all in
    let rest = low_block kinds block more (All-tail (IsLow kinds) g (block ++ more) all) in
    let low = rest.0 in
    (omega (arith, here, low, length-append (tuple_bytes kinds g) (flat_map (tuple_bytes kinds) block)), rest.1)

low_blocks : (kinds : List Bool) (blocks : List (List Group)) → All (IsShort kinds) blocks → All (IsLow kinds) (groups_of blocks) → length (blocks_bytes kinds blocks) ≤ 1008 * length (groups_of blocks)
unfolding blocks_bytes
low_blocks kinds [] short all = omega arith
low_blocks kinds (b ∷ blocks) short all =
    let some = (All-head (IsShort kinds) b blocks short).some in
    let here = low_block kinds b (groups_of blocks) all in
    let low = here.0 in
    let rest = low_blocks kinds blocks (All-tail (IsShort kinds) b blocks short) here.1 in
    let size = section_long (block_bytes kinds b) in
    omega (arith, some, low, rest, size, length-append (block_section kinds b) (flat_map (block_section kinds) blocks), length-append b (groups_of blocks))

fit_in_blocks : (kinds : List Bool) (start : ℕ) (groups : List Group) → All (IsLow kinds) groups → length groups ≤ 2 ^ 50 → start ≤ 2 ^ 30 → FitInBlocks kinds start groups
fit_in_blocks kinds start groups all few front =
    let short = blocks_short kinds groups all in
    let have = blocks_have kinds groups in
    let low = low_blocks kinds (blocks_of kinds groups) short (subst (λ (gs : List Group). All (IsLow kinds) gs) (sym have) all) in
    record { each = short; end = omega (arith, low, few, front, ap length have); many = omega (arith, few) }

-- ---- a file

front_long : (p : Preface) → length (head_bytes p) ≤ 2 ^ 28 → length (front_bytes p) ≤ 2 ^ 30
unfolding front_bytes
front_long p short =
    let size = section_long (head_bytes p) in
    let name : length name_bytes ≡ 17 = refl in
    let version : length version_bytes ≡ 2 = refl in
    omega (arith, short, size, name, version, length-append name_bytes (version_bytes ++ section (head_bytes p)), length-append version_bytes (section (head_bytes p)))

few_kinds : (shape : Shape) → IsShape shape → length shape.kinds.now ≤ 8
few_kinds shape is = let few = is.lanes in omega (arith, few, ap length is.kinds, length-map shape.lanes.now has_numbers)

told_low : (shape : Shape) (groups : List MapGroup) (tuples : List Group) → IsShape shape → AreTuplesOf shape groups tuples → All (IsTold shape) groups → All (IsLow shape.kinds.now) tuples
told_low shape groups tuples is are told = λ k d lt. low_tuple shape.columns shape.kinds.now (get_or tuples k d) (few_kinds shape is) (all_tuples shape groups tuples is are told k d lt)

groups_fit : (shape : Shape) (preface : Preface) (groups : List MapGroup) (tuples : List Group) → IsShape shape → All (IsTold shape) groups → length groups ≤ 2 ^ 50 → AreTuplesOf shape groups tuples → length (head_bytes preface) ≤ 2 ^ 28
    → FitInBlocks shape.kinds.now (length (front_bytes preface)) tuples
groups_fit shape preface groups tuples is told few are short =
    let kinds = shape.kinds.now in
    let all = told_low shape groups tuples is are told in
    let count : length tuples ≡ length groups = length_permutation (map (tuple_of shape) groups) tuples are.same ∙ length-map groups (tuple_of shape) in
    fit_in_blocks kinds (length (front_bytes preface)) tuples all (omega (arith, few, count)) (front_long preface short)

by_foot : (kinds : List Bool) (start : ℕ) (groups : List Group) → FitInBlocks kinds start groups → (Fit kinds start groups → ⊥) → 2 ^ 28 < length (foot_bytes kinds start (blocks_of kinds groups))
by_foot kinds start groups fit none = go (nat_le (length (foot_bytes kinds start (blocks_of kinds groups))) (2 ^ 28)) refl
  where
    size : ℕ
    size = length (foot_bytes kinds start (blocks_of kinds groups))

    go : (b : Bool) → nat_le size (2 ^ 28) ≡ b → 2 ^ 28 < size
    go true e = absurd (none (record { in_blocks = fit; foot = leb-true size (2 ^ 28) e }))
    go false e = leb-false size (2 ^ 28) e

pub long_known : LongIsKnown
long_known shape preface groups is told few none = go (nat_le (length (head_bytes preface)) (2 ^ 28)) refl
  where
    go : (b : Bool) → nat_le (length (head_bytes preface)) (2 ^ 28) ≡ b → IsLongFile shape preface groups
    go true e =
        let short = leb-true (length (head_bytes preface)) (2 ^ 28) e in
        let no = none short in
        let fit = groups_fit shape preface groups no.0 is told few no.1 short in
        inr (record { tuples = no.0; are = no.1; long = by_foot shape.kinds.now (length (front_bytes preface)) no.0 fit no.2 })
    go false e = inl (leb-false (length (head_bytes preface)) (2 ^ 28) e)

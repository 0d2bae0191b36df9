-- What fits into a file fits into a writer, so a writer finds too long only what is.
use Rattle.std.proofs.Common.{◌≡◌, ◌<◌, ◌≤◌, ◌^◌, ◌++◌, ◌∙◌, ℕ, Bool, false, true, List, [], ◌∷◌, All, ap, append_assoc, append-nil, arith, cond, length, length-append, nat_le, refl, subst, sym}
use Rattle.std.proofs.lemmas.List.Elements.{All-cons, All-head, All-nil, All-push, All-tail}
use Rattle.state_blocks.specs.Blocks.{Group, block_bytes, block_section, blocks_bytes, tuple_bytes}
use Rattle.state_body.specs.Body.{IsIndex, groups_of}
use Rattle.state_body.proofs.Indexes.{blocks-push, section_long}
use Rattle.state_writer.specs.Writing.{Cut, FitInBlocks, Fits, HasTaken, Holds, IsShort, blocks_of, closed, cut}
use Rattle.state_writer.specs.declared.writer.BodyWriter.{BodyWriter}
use Rattle.state_writer.proofs.Cuts.{Took, block-push, cut-push}
use Rattle.state_writer.proofs.Laws.{cut_groups}

-- all of some blocks and one after them
parts : (kinds : List Bool) (full : List (List Group)) (block : List Group) → All (IsShort kinds) (full ++ block ∷ []) → All (IsShort kinds) full × IsShort kinds block
parts kinds [] block all = (All-nil (IsShort kinds), All-head (IsShort kinds) block [] all)
parts kinds (b ∷ full) block all =
    let later = parts kinds full block (All-tail (IsShort kinds) b (full ++ block ∷ []) all) in
    (All-cons (IsShort kinds) b full (All-head (IsShort kinds) b (full ++ block ∷ []) all) later.0, later.1)

-- no block has no group
few_blocks : (kinds : List Bool) (blocks : List (List Group)) → All (IsShort kinds) blocks → length blocks ≤ length (groups_of blocks)
few_blocks kinds [] all = omega arith
few_blocks kinds (b ∷ blocks) all =
    let here = All-head (IsShort kinds) b blocks all in
    let some = here.some in
    let later = few_blocks kinds blocks (All-tail (IsShort kinds) b blocks all) in
    omega (arith, some, later, length-append b (groups_of blocks))

-- these are the blocks of some groups, and a writer holds the last one
fits_last : (kinds : List Bool) (start : ℕ) (full : List (List Group)) (block groups : List Group) (w : BodyWriter) → IsIndex kinds start full w.index → w.block.items ≡ block_bytes kinds block → w.groups ≡ length block
    → blocks_of kinds groups ≡ full ++ block ∷ [] → groups ≡ groups_of full ++ block → FitInBlocks kinds start groups → Fits w
fits_last kinds start full block groups w index bytes held are all fit =
    let each = parts kinds full block (subst (λ (bs : List (List Group)). All (IsShort kinds) bs) are fit.each) in
    let short = each.1.short in
    let end = fit.end in
    let many = fit.many in
    let at_is = index.at in
    let blocks_are = index.blocks_many in
    let groups_are = index.groups_many in
    let few = few_blocks kinds full each.0 in
    let long : length (blocks_bytes kinds (blocks_of kinds groups)) ≡ length (blocks_bytes kinds full ++ block_section kinds block) = ap (λ (bs : List (List Group)). length (blocks_bytes kinds bs)) are ∙ ap length (blocks-push kinds full block) in
    let size = length-append (blocks_bytes kinds full) (block_section kinds block) in
    let count = ap length all in
    let sum = length-append (groups_of full) block in
    record {
      block = omega (arith, short, ap length bytes);
      at = omega (arith, end, at_is, long, size);
      blocks = omega (arith, many, blocks_are, few, count, sum);
      groups = omega (arith, many, groups_are, count, sum);
      begun = omega (arith, many, held, count, sum);
    }

-- the last block has the last group
closed_some : (full : List (List Group)) (begun : List Group) (g : Group) → closed full (begun ++ g ∷ []) ≡ full ++ (begun ++ g ∷ []) ∷ []
closed_some full [] g = refl
closed_some full (h ∷ begun) g = refl

blocks_more : (kinds : List Bool) (groups : List Group) (g : Group) → blocks_of kinds (groups ++ g ∷ []) ≡ (cut kinds groups).full ++ ((cut kinds groups).begun ++ g ∷ []) ∷ []
blocks_more kinds groups g = ap (λ (d : Cut). closed d.full d.begun) (cut-push kinds groups g) ∙ go (nat_le 60_000 (length (block_bytes kinds ((cut kinds groups).begun ++ g ∷ []))))
  where
    full : Cut
    full = record { full = (cut kinds groups).full ++ ((cut kinds groups).begun ++ g ∷ []) ∷ []; begun = [] }

    begun : Cut
    begun = record { full = (cut kinds groups).full; begun = (cut kinds groups).begun ++ g ∷ [] }

    go : (b : Bool) → closed (cond b full begun).full (cond b full begun).begun ≡ (cut kinds groups).full ++ ((cut kinds groups).begun ++ g ∷ []) ∷ []
    go true = refl
    go false = closed_some (cut kinds groups).full (cut kinds groups).begun g

-- ---- of each answer of a writer

-- a block that is full
pub full_fits : (kinds : List Bool) (start : ℕ) (groups : List Group) (g : Group) (written : List ℕ) (w : BodyWriter) → Took kinds start (cut kinds groups) g written w → FitInBlocks kinds start (groups ++ g ∷ []) → Fits w
full_fits kinds start groups g written w is fit =
    let c = cut kinds groups in
    fits_last kinds start c.full (c.begun ++ g ∷ []) (groups ++ g ∷ []) w is.index is.block is.many (blocks_more kinds groups g)
    (ap (λ (gs : List Group). gs ++ g ∷ []) (sym (cut_groups kinds groups)) ∙ append_assoc (groups_of c.full) c.begun (g ∷ [])) fit

-- a block that is begun
pub begun_fits : (kinds : List Bool) (start : ℕ) (groups : List Group) (g : Group) (written : List ℕ) (w : BodyWriter) → HasTaken kinds start groups written w → FitInBlocks kinds start (groups ++ g ∷ []) → w.groups ≤ 2 ^ 62
begun_fits kinds start groups g written w is fit =
    let c = cut kinds groups in
    let held = is.many in
    let many = fit.many in
    omega (arith, held, many, ap length (cut_groups kinds groups), length-append (groups_of c.full) c.begun, length-append groups (g ∷ []))

-- the last block
last_of : (kinds : List Bool) (start : ℕ) (groups : List Group) (full : List (List Group)) (begun : List Group) (written : List ℕ) (w : BodyWriter) → Holds kinds start (record { full = full; begun = begun }) written w
    → blocks_of kinds groups ≡ closed full begun → groups ≡ groups_of full ++ begun → 0 < w.groups → FitInBlocks kinds start groups → Fits w
last_of kinds start groups full [] written w is are all some fit = let held = is.many in absurd (omega (arith, some, held))
last_of kinds start groups full (g ∷ begun) written w is are all some fit = fits_last kinds start full (g ∷ begun) groups w is.index is.block is.many are all fit

pub last_fits : (kinds : List Bool) (start : ℕ) (groups : List Group) (written : List ℕ) (w : BodyWriter) → HasTaken kinds start groups written w → 0 < w.groups → FitInBlocks kinds start groups → Fits w
last_fits kinds start groups written w is some fit = last_of kinds start groups (cut kinds groups).full (cut kinds groups).begun written w is refl (sym (cut_groups kinds groups)) some fit

-- ---- what fits has a front that fits

block_less : (kinds : List Bool) (block : List Group) (g : Group) → length (block_bytes kinds block) ≤ length (block_bytes kinds (block ++ g ∷ []))
block_less kinds block g = omega (arith, ap length (block-push kinds block g), length-append (block_bytes kinds block) (tuple_bytes kinds g))

closed_short : (kinds : List Bool) (full : List (List Group)) (begun : List Group) (g : Group) → All (IsShort kinds) full → IsShort kinds (begun ++ g ∷ []) → All (IsShort kinds) (closed full begun)
closed_short kinds full [] g all is = all
closed_short kinds full (h ∷ begun) g all is =
    let short = is.short in
    let less = block_less kinds (h ∷ begun) g in
    All-push (IsShort kinds) full (h ∷ begun) all (record { some = omega arith; short = omega (arith, short, less) })

closed_less : (kinds : List Bool) (full : List (List Group)) (begun : List Group) (g : Group) → length (blocks_bytes kinds (closed full begun)) ≤ length (blocks_bytes kinds (full ++ (begun ++ g ∷ []) ∷ []))
closed_less kinds full [] g = omega (arith, ap length (blocks-push kinds full (g ∷ [])), length-append (blocks_bytes kinds full) (block_section kinds (g ∷ [])))
closed_less kinds full (h ∷ begun) g =
    let less = block_less kinds (h ∷ begun) g in
    let one = section_long (block_bytes kinds (h ∷ begun)) in
    let more = section_long (block_bytes kinds ((h ∷ begun) ++ g ∷ [])) in
    omega (
      arith,
      less,
      one,
      more,
      ap length (blocks-push kinds full (h ∷ begun)),
      length-append (blocks_bytes kinds full) (block_section kinds (h ∷ begun)),
      ap length (blocks-push kinds full ((h ∷ begun) ++ g ∷ [])),
      length-append (blocks_bytes kinds full) (block_section kinds ((h ∷ begun) ++ g ∷ [])),
    )

fit_one : (kinds : List Bool) (start : ℕ) (groups : List Group) (g : Group) → FitInBlocks kinds start (groups ++ g ∷ []) → FitInBlocks kinds start groups
fit_one kinds start groups g fit =
    let c = cut kinds groups in
    let two = parts kinds c.full (c.begun ++ g ∷ []) (subst (λ (bs : List (List Group)). All (IsShort kinds) bs) (blocks_more kinds groups g) fit.each) in
    let end = fit.end in
    let many = fit.many in
    let less = closed_less kinds c.full c.begun g in
    let long : length (blocks_bytes kinds (blocks_of kinds (groups ++ g ∷ []))) ≡ length (blocks_bytes kinds (c.full ++ (c.begun ++ g ∷ []) ∷ [])) = ap (λ (bs : List (List Group)). length (blocks_bytes kinds bs)) (blocks_more kinds groups g) in
    record { each = closed_short kinds c.full c.begun g two.0 two.1; end = omega (arith, end, long, less); many = omega (arith, many, length-append groups (g ∷ [])) }

pub fit_front : (kinds : List Bool) (start : ℕ) (front more : List Group) → FitInBlocks kinds start (front ++ more) → FitInBlocks kinds start front
fit_front kinds start front [] fit = subst (FitInBlocks kinds start) (append-nil front) fit
fit_front kinds start front (g ∷ more) fit = fit_one kinds start front g (fit_front kinds start (front ++ g ∷ []) more (subst (FitInBlocks kinds start) (sym (append_assoc front (g ∷ []) more)) fit))

-- The groups of a block: its bytes are those of one list of groups.
use Rattle.std.proofs.Common.{◌≡◌, ◌<◌, ◌≤◌, ◌^◌, ◌++◌, ◌∙◌, ◌-ℤ◌, ◌≤ℤ◌, ℕ, ℤ, Bool, true, false, List, [], ◌∷◌, All, FitsSigned, ap, append_assoc, arith, cond, length, length-append, refl, subst, sym}
use Rattle.std.specs.Int.{w128, w64}
use Rattle.std.specs.Int.RustNames.{unsigned_abs}
use Rattle.std.specs.List.{flat_map}
use Rattle.std.proofs.lemmas.Int.{fits_signed_from_abs, ints}
use Rattle.std.proofs.lemmas.List.Elements.{All-head, All-tail}
use Rattle.par_model.specs.Aggregate.{no_values}
use Rattle.par_model.specs.declared.state.SlotState.{SlotState}
use Rattle.state_blocks.specs.Blocks.{Group, IsTuple, block_bytes, tuple_bytes}
use Rattle.state_blocks.proofs.Tuples.{tuple_some}
use Rattle.state_file.specs.Number.{folded, number_bytes}
use Rattle.state_groups.specs.Group.{AreSlots, slots_bytes}
use Rattle.state_groups.specs.Slot.{IsOfIntegers, IsSlot, has_integers, integers_bytes, slot_bytes, spread}
use Rattle.state_once.proofs.Numbers.{folded_fits, folded_same, number_apart, number_then, text_then}

-- ---- integers

wider : (z : ℤ) → FitsSigned w64 z → FitsSigned w128 z
wider z f = omega (arith, ints)

sum_fits : (s : SlotState) → IsOfIntegers s → s.count ≤ 2 ^ 50 → FitsSigned w128 s.sum
sum_fits s is few =
    let near = is.sum in
    fits_signed_from_abs w128 s.sum (omega (arith, near, few))

spread_fits : (l g : ℤ) → FitsSigned w64 l → FitsSigned w64 g → unsigned_abs (g -ℤ l) < 2 ^ 128
spread_fits l g f h = omega (arith, ints)

greatest_same : (l g h : ℤ) → l ≤ℤ g → l ≤ℤ h → unsigned_abs (g -ℤ l) ≡ unsigned_abs (h -ℤ l) → g ≡ h
greatest_same l g h p q e = omega (arith, ints)

integers_apart : (s t : SlotState) (x y : List ℕ) → s.count ≡ t.count → IsOfIntegers s → IsOfIntegers t → s.count ≤ 2 ^ 50 → t.count ≤ 2 ^ 50 → integers_bytes s ++ x ≡ integers_bytes t ++ y → (s ≡ t) × (x ≡ y)
integers_apart s t x y count h k few few' e =
    let a = number_then (folded s.sum) (folded t.sum) (number_bytes (folded s.least) ++ number_bytes (spread s)) (number_bytes (folded t.least) ++ number_bytes (spread t)) x y (folded_fits s.sum (sum_fits s h few)) (folded_fits t.sum (sum_fits t k few')) e in
    let b = number_then (folded s.least) (folded t.least) (number_bytes (spread s)) (number_bytes (spread t)) x y (folded_fits s.least (wider s.least h.least)) (folded_fits t.least (wider t.least k.least)) a.1 in
    let c = number_apart (spread s) (spread t) x y (spread_fits s.least s.greatest h.least h.greatest) (spread_fits t.least t.greatest k.least k.greatest) b.1 in
    let sum = folded_same s.sum t.sum a.0 in
    let least = folded_same s.least t.least b.0 in
    let above : unsigned_abs (s.greatest -ℤ t.least) ≡ unsigned_abs (t.greatest -ℤ t.least) = ap (λ (z : ℤ). unsigned_abs (s.greatest -ℤ z)) (sym least) ∙ c.0 in
    let greatest = greatest_same t.least s.greatest t.greatest (subst (λ (z : ℤ). z ≤ℤ s.greatest) least h.order) k.order above in
    (λ i. record { count = count i; sum = sum i; least = least i; greatest = greatest i }, c.1)

-- ---- a slot

slot_apart : (kind : Bool) (n m : ℕ) (s t : SlotState) (x y : List ℕ) → n ≤ 2 ^ 50 → m ≤ 2 ^ 50 → IsSlot kind n s → IsSlot kind m t → slot_bytes kind s ++ x ≡ slot_bytes kind t ++ y → (s ≡ t) × (x ≡ y)
unfolding slot_bytes
slot_apart kind n m s t x y few few' h k e =
    let hc = h.count in
    let kc = k.count in
    let a = number_then s.count t.count (cond (has_integers kind s.count) (integers_bytes s) []) (cond (has_integers kind t.count) (integers_bytes t) []) x y (omega (arith, hc, few)) (omega (arith, kc, few')) e in
    go (has_integers kind s.count) refl (has_integers kind t.count) refl (omega (arith, hc, few)) (omega (arith, kc, few')) a.0 a.1
  where
    only : ℕ → SlotState
    only count = record no_values { count = count }

    go : (b : Bool) → has_integers kind s.count ≡ b → (d : Bool) → has_integers kind t.count ≡ d → s.count ≤ 2 ^ 50 → t.count ≤ 2 ^ 50 → s.count ≡ t.count → cond b (integers_bytes s) [] ++ x ≡ cond d (integers_bytes t) [] ++ y → (s ≡ t) × (x ≡ y)
    go true p true q sf tf count e = integers_apart s t x y count h.numbers k.numbers sf tf e
    go true p false q sf tf count e = let no : true ≡ false = sym p ∙ ap (has_integers kind) count ∙ q in absurd (cc)
    go false p true q sf tf count e = let no : false ≡ true = sym p ∙ ap (has_integers kind) count ∙ q in absurd (cc)
    go false p false q sf tf count e = (h.plain p ∙ ap only count ∙ sym (k.plain q), e)

slots_apart : (kinds : List Bool) (n m : ℕ) (ss ts : List SlotState) (x y : List ℕ) → n ≤ 2 ^ 50 → m ≤ 2 ^ 50 → AreSlots kinds n ss → AreSlots kinds m ts → slots_bytes kinds ss ++ x ≡ slots_bytes kinds ts ++ y → (ss ≡ ts) × (x ≡ y)
unfolding slots_bytes
slots_apart [] n m [] [] x y few few' h k e = (refl, e)
slots_apart [] n m [] (t ∷ ts) x y few few' h k e = absurd k
slots_apart [] n m (s ∷ ss) ts x y few few' h k e = absurd h
slots_apart (kind ∷ kinds) n m [] ts x y few few' h k e = absurd h
slots_apart (kind ∷ kinds) n m (s ∷ ss) [] x y few few' h k e = absurd k
slots_apart (kind ∷ kinds) n m (s ∷ ss) (t ∷ ts) x y few few' h k e =
    let a = slot_apart kind n m s t (slots_bytes kinds ss ++ x) (slots_bytes kinds ts ++ y) few few' h.0 k.0 (sym (append_assoc (slot_bytes kind s) (slots_bytes kinds ss) x) ∙ e ∙ append_assoc (slot_bytes kind t) (slots_bytes kinds ts) y) in
    let b = slots_apart kinds n m ss ts x y few few' h.1 k.1 a.1 in
    (ap (λ (z : SlotState). z ∷ ss) a.0 ∙ ap (λ (l : List SlotState). t ∷ l) b.0, b.1)

-- ---- a group

tuple_apart : (columns : ℕ) (kinds : List Bool) (g h : Group) (x y : List ℕ) → IsTuple columns kinds g → IsTuple columns kinds h → tuple_bytes kinds g ++ x ≡ tuple_bytes kinds h ++ y → (g ≡ h) × (x ≡ y)
unfolding tuple_bytes
tuple_apart columns kinds g h x y is is' e =
    let short = is.is_key.short in
    let short' = is'.is_key.short in
    let few = is.few in
    let few' = is'.few in
    let a = text_then g.key h.key (number_bytes g.rows ++ slots_bytes kinds g.slots) (number_bytes h.rows ++ slots_bytes kinds h.slots) x y (omega (arith, short)) (omega (arith, short')) e in
    let b = number_then g.rows h.rows (slots_bytes kinds g.slots) (slots_bytes kinds h.slots) x y (omega (arith, few)) (omega (arith, few')) a.1 in
    let c = slots_apart kinds g.rows h.rows g.slots h.slots x y few few' is.are_slots is'.are_slots b.1 in
    (λ i. record { key = a.0 i; rows = b.0 i; slots = c.0 i }, c.1)

tuples_once : (columns : ℕ) (kinds : List Bool) (gs hs : List Group) → All (IsTuple columns kinds) gs → All (IsTuple columns kinds) hs → flat_map (tuple_bytes kinds) gs ≡ flat_map (tuple_bytes kinds) hs → gs ≡ hs
tuples_once columns kinds [] [] a b e = refl
tuples_once columns kinds [] (h ∷ hs) a b e = let some = tuple_some kinds h in absurd (omega (arith, some, ap length e, length-append (tuple_bytes kinds h) (flat_map (tuple_bytes kinds) hs)))
tuples_once columns kinds (g ∷ gs) [] a b e = let some = tuple_some kinds g in absurd (omega (arith, some, ap length e, length-append (tuple_bytes kinds g) (flat_map (tuple_bytes kinds) gs)))
tuples_once columns kinds (g ∷ gs) (h ∷ hs) a b e =
    let both = tuple_apart columns kinds g h (flat_map (tuple_bytes kinds) gs) (flat_map (tuple_bytes kinds) hs) (All-head (IsTuple columns kinds) g gs a) (All-head (IsTuple columns kinds) h hs b) e in
    ap (λ (z : Group). z ∷ gs) both.0 ∙ ap (λ (l : List Group). h ∷ l) (tuples_once columns kinds gs hs (All-tail (IsTuple columns kinds) g gs a) (All-tail (IsTuple columns kinds) h hs b) both.1)

pub block_once : (columns : ℕ) (kinds : List Bool) (gs hs : List Group) → All (IsTuple columns kinds) gs → All (IsTuple columns kinds) hs → block_bytes kinds gs ≡ block_bytes kinds hs → gs ≡ hs
unfolding block_bytes
block_once columns kinds gs hs a b e = tuples_once columns kinds gs hs a b e

pub block_some : (kinds : List Bool) (g : Group) (gs : List Group) → [] ≡ block_bytes kinds (g ∷ gs) → ⊥
unfolding block_bytes
block_some kinds g gs e = let some = tuple_some kinds g in omega (arith, some, ap length e, length-append (tuple_bytes kinds g) (flat_map (tuple_bytes kinds) gs))

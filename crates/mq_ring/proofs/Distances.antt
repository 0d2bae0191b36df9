-- How far one count is behind another, from their words; and where in the region a ring's words are.
use Rattle.std.proofs.Common.{◌≡◌, ℕ, ◌+◌, ◌-◌, ◌%◌, ◌^◌, ◌<◌, ◌≤◌, sym, ap, subst, ◌∙◌, arith, pow_mono, pow_pos, mod-lt}
use Rattle.std.proofs.lemmas.Nat.{and_mask}
use Rattle.std.specs.Int.Bits.{bit_and}
use Rattle.atomic_table.specs.Seated.{TableId}
use Rattle.ring_rule.specs.Ring.{Ring, count_word, cell_of, place_of}
use Rattle.ring_rule.proofs.Counts.{cell_by_word, some_cells}
use Rattle.mq_ring.specs.Ends.{LiesIn}

-- the count r of a word n is that far behind the count `put` of a word `position`
pub behind : (start put r position n : ℕ) → position ≡ (start + put) % 18446744073709551616 → n ≡ (start + r) % 18446744073709551616 → r ≤ put → put < r + 18446744073709551616
    → (position + (18446744073709551616 - n)) % 18446744073709551616 + r ≡ put
behind start put r position n e f low near = omega arith

pub masked : (position size e : ℕ) → size ≡ 2 ^ e → bit_and position (size - 1) ≡ position % size
masked position size e is = subst (λ (n : ℕ). bit_and position (n - 1) ≡ position % n) (sym is) (and_mask position e)

pub below_power : (position size e : ℕ) → size ≡ 2 ^ e → position % size < size
below_power position size e is = mod-lt position (subst (λ (n : ℕ). 0 < n) (sym is) (pow_pos e))

-- a word of the ring is one of the region
pub in_region : (t z : TableId) (r : Ring) (base size max k : ℕ) → LiesIn t r base size max → t ≡ z → k < base + 3 + size → k < z.words
in_region t z r base size max k lies same h = let i = lies.inside in subst (λ (x : TableId). k < x.words) same (omega arith)

-- the place of a count's word, by the numbers that an end has
pub place_is : (t : TableId) (r : Ring) (base size max position n k : ℕ) → LiesIn t r base size max → position ≡ count_word r n → k ≡ base + 3 + position % size → k ≡ place_of r n
place_is t r base size max position n k lies e is =
    let a : position % size ≡ (r.start + n) % r.size =
    ap (λ (x : ℕ). position % x) lies.size_is ∙ ap (λ (x : ℕ). x % r.size) e ∙ cell_by_word r n lies.ring in
    let b = lies.base_is in
    omega arith

-- a cell is a word of the region
pub place_inside : (t z : TableId) (r : Ring) (base size max n : ℕ) → LiesIn t r base size max → t ≡ z → place_of r n < z.words
place_inside t z r base size max n lies same =
    let below : cell_of r n < r.size = mod-lt (r.start + n) (some_cells r lies.ring) in
    let b = lies.base_is in
    let c = lies.size_is in
    in_region t z r base size max (place_of r n) lies same (omega arith)

-- a ring has few cells
pub power_few : (words e : ℕ) → words ≡ 2 ^ e → e ≤ 20 → words ≤ 2 ^ 20
power_few words e is low = subst (λ (n : ℕ). n ≤ 2 ^ 20) (sym is) (pow_mono {i = e} {j = 20} low)

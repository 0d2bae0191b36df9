-- The keys of the table: the longest field fits, and a key tells its field.
use Rattle.std.proofs.Common.{◌≡◌, ◌≤◌, ◌<◌, ◌+◌, ◌*◌, ◌-◌, ◌⊎◌, inl, inr, ◌∷◌, ℕ, zero, suc, List, get_or, length, length-take, min, take, arith, ap, sym, subst, ◌∙◌}
use Rattle.std.specs.Int.{div_ceil}
use Rattle.std.proofs.Math.Nat.{le-max_left, le-max_right, le-suc_iff, max-le}
use Rattle.std.proofs.lemmas.Grind.{div_ceil_times, same_number_lists}
use Rattle.std.proofs.lemmas.List.{get_or-take}
use Rattle.csv_rows.specs.Records.{field_of}
use Rattle.join_pairs.specs.Join.{AllAccepted, IsRow}
use Rattle.rel_pointer.specs.Bytes.{AllBytes, packed, packed_words}
use Rattle.rel_pointer.proofs.Words.{length-packed_words, packed_words-at, packed_words-same}
use Rattle.row_blocks.specs.Blocks.{Table}
use Rattle.hash_join.specs.Filled.{key_of}
use Rattle.hash_join.specs.Widths.{field_words, key_words, longest_of}

-- ---- the longest field

pub longest_here : (records : Table) (column n row : ℕ) → 1 ≤ row → row ≤ n → length (field_of records row column) ≤ longest_of records column n
longest_here records column zero row a b = absurd (omega (arith, a, b))
longest_here records column (suc n) row a b = by (longest_here records column n row a) (le-suc_iff.0 b)
  where
    by : (row ≤ n → length (field_of records row column) ≤ longest_of records column n) → (row ≤ n) ⊎ (row ≡ suc n) → length (field_of records row column) ≤ longest_of records column (suc n)
    by f (inl h) = (let here = f h in let left = le-max_left (longest_of records column n) (length (field_of records (suc n) column)) in omega (arith, here, left))
    by f (inr e) = subst (λ (r : ℕ). length (field_of records r column) ≤ longest_of records column (suc n)) (sym e) (le-max_right (longest_of records column n) (length (field_of records (suc n) column)))

pub longest_most : (records : Table) (column n most : ℕ) → ((row : ℕ) → 1 ≤ row → row ≤ n → length (field_of records row column) ≤ most) → longest_of records column n ≤ most
longest_most records column zero most h = omega arith
longest_most records column (suc n) most h =
    max-le (longest_most records column n most (λ row a b. h row a (omega (arith, b)))) (h (suc n) (omega arith) (omega arith))

-- ---- words of a key

-- as many words as needed have room for the bytes, and hardly more
pub words_fit : (bytes : ℕ) → (bytes ≤ 8 * div_ceil bytes 8) × (8 * div_ceil bytes 8 < bytes + 8)
words_fit bytes = (let t = div_ceil_times bytes 8 (omega arith) in (omega (arith, t.0), omega (arith, t.1)))

pub packs_same : (n : ℕ) (x y : List ℕ) → AllBytes x → AllBytes y → length x ≤ 8 * n → ◌≡◌ {A = List ℕ} (length x ∷ packed_words n x) (length y ∷ packed_words n y) → x ≡ y
packs_same n x y a b short e =
    let long : length x ≡ length y = cc in
    let words : packed_words n x ≡ packed_words n y = cc in
    packed_words-same n x y a b long short words

-- the field of a row fits
pub field_fits : (records : Table) (column row : ℕ) → IsRow records row → length (field_of records row column) ≤ 8 * field_words records column
field_fits records column row r =
    let last = length records - 1 in
    let here = longest_here records column last row r.0 (omega (arith, r.1)) in
    let fit = (words_fit (longest_of records column last)).0 in
    omega (arith, here, fit)

-- no key has more words than a packed one
pub words_few : (records : Table) (column : ℕ) → AllAccepted records column → key_words records column ≤ 32
words_few records column accepted =
    let last = length records - 1 in
    let most = longest_most records column last 248 (λ row a b. (accepted row (a, omega (arith, a, b))).short) in
    let fit = (words_fit (longest_of records column last)).1 in
    omega (arith, most, fit)

pub words_small : (records : Table) (column : ℕ) → AllAccepted records column → (n words : ℕ) → n ≡ longest_of records column (length records - 1) → words ≡ div_ceil n 8 → words ≤ 31
words_small records column accepted n words is w =
    let few = words_few records column accepted in
    let same : words ≡ field_words records column = w ∙ ap (λ (k : ℕ). div_ceil k 8) is in
    omega (arith, few, same)

-- ---- the key of a row

-- the words that were filled
pub packs_words : (m : ℕ) (key bytes : List ℕ) → length key ≡ 32 → m ≤ 31 → get_or key 0 0 ≡ length bytes → ((k : ℕ) → k < m → get_or key (1 + k) 0 ≡ packed bytes k) → take (suc m) key ≡ length bytes ∷ packed_words m bytes
packs_words m key bytes long low head words = same_number_lists (take (suc m) key) (length bytes ∷ packed_words m bytes) (cut ∙ sym (ap suc (length-packed_words m bytes))) each
  where
    cut : length (take (suc m) key) ≡ suc m
    cut = length-take (suc m) key ∙ let few : min (suc m) (length key) ≡ suc m = omega (arith, long, low) in few

    each : (k : ℕ) → k < length (take (suc m) key) → get_or (take (suc m) key) k 0 ≡ get_or (length bytes ∷ packed_words m bytes) k 0
    each zero h = get_or-take (suc m) key 0 0 (omega arith) ∙ head
    each (suc k) h =
        let lt : k < m = omega (arith, h, cut) in
        let at : suc k ≡ 1 + k = omega arith in
        get_or-take (suc m) key (suc k) 0 (omega (arith, lt)) ∙ ap (λ (j : ℕ). get_or key j 0) at ∙ words k lt ∙ sym (packed_words-at m bytes k lt)

-- the key of the row's field
pub key_is : (records : Table) (column row words : ℕ) (packed key field : List ℕ) → words ≡ key_words records column → take words packed ≡ length field ∷ packed_words (words - 1) field → field ≡ field_of records row column → key ≡ take words packed
    → key ≡ key_of records column row
key_is records column row words packed key field is packs f cut =
    let few : words - 1 ≡ field_words records column = omega (arith, is) in
    cut ∙ packs ∙ ap (λ (n : ℕ). length field ∷ packed_words n field) few ∙ ap (λ (x : List ℕ). length x ∷ packed_words (field_words records column) x) f

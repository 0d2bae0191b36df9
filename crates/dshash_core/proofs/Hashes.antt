-- The hash of a word, byte by byte: a byte that is 0 is one product with the prime, so the zero bytes at a word's top
-- are one product with a power of it.
use Rattle.std.proofs.Common.{◌≡◌, ℕ, zero, suc, ◌+◌, ◌-◌, ◌*◌, ◌/◌, ◌%◌, ◌^◌, ◌<◌, ◌≤◌, List, [], ◌∷◌, fold, get_or, refl, sym, ap, ◌∙◌, arith}
use Rattle.std.specs.Int.{byte_at, bytes_low_first}
use Rattle.std.specs.Int.Bits.{xor_zero_r}
use Rattle.std.proofs.Math.Nat.{mod-eq_of_lt, div-div-eq-div-mul}
use Rattle.std.proofs.lemmas.Nat.{mul-mod_first, mul-mod_second, pow-add}
use Rattle.dshash_core.specs.Key.{fnv_step, hash_of, seeded_hash}

-- the hash goes on over the k bytes of a word from byte i on
abbrev pub over : ℕ → ℕ → ℕ → ℕ → ℕ
over i k hash word = fold fnv_step hash (bytes_low_first i k word)

-- a power of the prime
abbrev pub power : ℕ → ℕ
power zero = 1
power (suc k) = 0x0100_0193 * power k

pub byte_is : (i word : ℕ) → byte_at i word ≡ word / 256 ^ i % 256
byte_is zero word = ap (λ (n : ℕ). n % 256) (let e : word ≡ word / 1 = omega arith in e)
byte_is (suc i) word = refl

-- what is left of a word after one more byte
pub rest_is : (i word rest : ℕ) → rest ≡ word / 256 ^ i → rest / 256 ≡ word / 256 ^ (i + 1)
rest_is i word rest e = ap (λ (n : ℕ). n / 256) e ∙ div-div-eq-div-mul word (256 ^ i) 256 ∙ ap (λ (n : ℕ). word / n) (sym (pow-add 256 i 1))

zero_byte : (hash : ℕ) → fnv_step hash 0 ≡ hash * 0x0100_0193 % 2 ^ 32
zero_byte hash = ap (λ (n : ℕ). n * 0x0100_0193 % 2 ^ 32) (xor_zero_r hash)

pub zeros : (k i hash word : ℕ) → hash < 2 ^ 32 → word / 256 ^ i ≡ 0 → over i k hash word ≡ hash * power k % 2 ^ 32
zeros zero i hash word small none = sym (ap (λ (n : ℕ). n % 2 ^ 32) (let e : hash * 1 ≡ hash = omega arith in e) ∙ mod-eq_of_lt small)
zeros (suc k) i hash word small none =
    let next : ℕ = hash * 0x0100_0193 % 2 ^ 32 in
    let low : next < 2 ^ 32 = omega arith in
    let byte : byte_at i word ≡ 0 = byte_is i word ∙ ap (λ (n : ℕ). n % 256) none in
    let gone : word / 256 ^ suc i ≡ 0 = (let r = rest_is i word 0 (sym none) in let s : suc i ≡ i + 1 = omega arith in ap (λ (n : ℕ). word / 256 ^ n) s ∙ sym r) in
    ap (λ (b : ℕ). fold fnv_step (fnv_step hash b) (bytes_low_first (suc i) k word)) byte
    ∙ ap (λ (h : ℕ). over (suc i) k h word) (zero_byte hash)
    ∙ zeros k (suc i) next word low gone
    ∙ mul-mod_first (hash * 0x0100_0193) (power k) (2 ^ 32)
    ∙ ap (λ (n : ℕ). n % 2 ^ 32) (mul_assoc hash 0x0100_0193 (power k))
  where
    mul_assoc : (a b c : ℕ) → a * b * c ≡ a * (b * c)
    mul_assoc a b c = grind arith

-- the last product, by a power that is listed modulo 2^32
pub last_product : (k i hash word listed : ℕ) → hash < 2 ^ 32 → word / 256 ^ i ≡ 0 → listed ≡ power k % 2 ^ 32 → hash * listed % 2 ^ 32 ≡ over i k hash word
last_product k i hash word listed small none e = ap (λ (n : ℕ). hash * n % 2 ^ 32) e ∙ mul-mod_second hash (power k) (2 ^ 32) ∙ sym (zeros k i hash word small none)

abbrev pub listed_powers : List ℕ
listed_powers = 0x1 ∷ 0x0100_0193 ∷ 0x2602_7a69 ∷ 0x3ee6_b34b ∷ 0x502c_3f11 ∷ 0x46a7_47c3 ∷ 0xfc55_f7f9 ∷ 0x3455_5cfb ∷ 0x5d61_5f21 ∷ []

pub are_powers : (k : ℕ) → k < 9 → get_or listed_powers k 0 ≡ power k % 2 ^ 32
are_powers zero h = refl
are_powers (suc zero) h = refl
are_powers (suc (suc zero)) h = refl
are_powers (suc (suc (suc zero))) h = refl
are_powers (suc (suc (suc (suc zero)))) h = refl
are_powers (suc (suc (suc (suc (suc zero))))) h = refl
are_powers (suc (suc (suc (suc (suc (suc zero)))))) h = refl
are_powers (suc (suc (suc (suc (suc (suc (suc zero))))))) h = refl
are_powers (suc (suc (suc (suc (suc (suc (suc (suc zero)))))))) h = refl
are_powers (suc (suc (suc (suc (suc (suc (suc (suc (suc k))))))))) h = absurd (omega (arith, h))

-- where something is left of a word, a byte is
pub some_left : (left rest : ℕ) → rest < 256 ^ left → 0 < rest → 1 ≤ left
some_left zero rest low some = absurd (let none : rest < 1 = low in omega arith)
some_left (suc left) rest low some = omega arith

-- one byte more
pub next_byte : (left rest hash word : ℕ) → left ≤ 8 → 1 ≤ left → rest ≡ word / 256 ^ (8 - left)
    → (over (8 - left) left hash word ≡ over (8 - (left - 1)) (left - 1) (fnv_step hash (rest % 256)) word) × (rest / 256 ≡ word / 256 ^ (8 - (left - 1)))
next_byte left rest hash word most some e =
    let i : ℕ = 8 - left in
    let less : ℕ = left - 1 in
    let more : left ≡ suc less = omega arith in
    let place : suc i ≡ 8 - less = omega arith in
    let after : i + 1 ≡ 8 - less = omega arith in
    let byte : byte_at i word ≡ rest % 256 = byte_is i word ∙ ap (λ (n : ℕ). n % 256) (sym e) in
    let first : over i (suc less) hash word ≡ over (suc i) less (fnv_step hash (byte_at i word)) word = refl in (
      ap (λ (k : ℕ). over i k hash word) more
          ∙ first
          ∙ ap (λ (b : ℕ). over (suc i) less (fnv_step hash b) word) byte
          ∙ ap (λ (j : ℕ). over j less (fnv_step hash (rest % 256)) word) place,
      rest_is i word rest e ∙ ap (λ (j : ℕ). word / 256 ^ j) after,
    )

pub next_low : (left rest : ℕ) → 1 ≤ left → rest < 256 ^ left → rest / 256 < 256 ^ (left - 1)
next_low left rest some low =
    let more : left ≡ left - 1 + 1 = omega arith in
    let p : 256 ^ left ≡ 256 ^ (left - 1) * 256 = ap (λ (n : ℕ). 256 ^ n) more ∙ pow-add 256 (left - 1) 1 in
    omega arith

-- with the seed 0 a key has the hash that it has without one
zero_seed : (key : List ℕ) → hash_of key ≡ seeded_hash 0 key
unfolding seeded_hash
zero_seed key = refl

pub unseeded : (seed : ℕ) (key : List ℕ) → seed ≡ 0 → hash_of key ≡ seeded_hash seed key
unseeded seed key none = zero_seed key ∙ ap (λ (s : ℕ). seeded_hash s key) (sym none)

-- Packed keys, word by word and byte by byte.
use Rattle.std.proofs.Common.{◌≡◌, ℕ, zero, suc, ◌+◌, ◌/◌, ◌<◌, ◌≤◌, List, ◌∷◌, length, get_or, take, sym, ap, ◌∙◌, arith, length-take, subst, min, w8, Fits, true, []}
use Rattle.std.proofs.lemmas.Grind.{same_number_lists}
use Rattle.std.proofs.lemmas.Bool.Decides.{nat_tests}
use Rattle.std.proofs.lemmas.List.{get_or-take, get_or_default}
use Rattle.rel_pointer.specs.Bytes.{AllBytes, packed, packed_words, byte_of, is_of_word}
use Rattle.rel_pointer.proofs.Words.{packed_words-at, length-packed_words, packed_byte}
use Rattle.dshash_core.specs.Key.{packed_key, IsPackedKey}

words_pack : (n : ℕ) (key bytes : List ℕ) → length key ≡ suc n → get_or key 0 0 ≡ length bytes → ((k : ℕ) → k < n → get_or key (1 + k) 0 ≡ packed bytes k) → key ≡ length bytes ∷ packed_words n bytes
words_pack n key bytes long head words =
    same_number_lists key (length bytes ∷ packed_words n bytes) (long ∙ sym (ap suc (length-packed_words n bytes))) each
  where
    each : (k : ℕ) → k < length key → get_or key k 0 ≡ get_or (length bytes ∷ packed_words n bytes) k 0
    each zero h = head
    each (suc k) h = ap (λ (j : ℕ). get_or key j 0) (let e : suc k ≡ 1 + k = omega arith in e) ∙ words k (omega arith) ∙ sym (packed_words-at n bytes k (omega arith))

-- the key that has the length and then the words is the packed one
pub packs : (key bytes : List ℕ) → length key ≡ 32 → get_or key 0 0 ≡ length bytes → ((k : ℕ) → k < 31 → get_or key (1 + k) 0 ≡ packed bytes k) → key ≡ packed_key bytes
unfolding packed_key
packs key bytes long head words = words_pack 31 key bytes long head words

pub is_packed : (key bytes : List ℕ) → AllBytes bytes → length bytes ≤ 248 → key ≡ packed_key bytes → IsPackedKey key
is_packed key bytes all short e = record { bytes = bytes; are_bytes = all; short = short; packs = e }

pub packed_long : (key bytes : List ℕ) → key ≡ packed_key bytes → length key ≡ 32
unfolding packed_key
packed_long key bytes e = ap length e ∙ ap suc (length-packed_words 31 bytes)

pub packed_head : (key bytes : List ℕ) → key ≡ packed_key bytes → get_or key 0 0 ≡ length bytes
unfolding packed_key
packed_head key bytes e = ap (λ (l : List ℕ). get_or l 0 0) e

pub packed_word : (key bytes : List ℕ) (k : ℕ) → key ≡ packed_key bytes → k < 31 → get_or key (1 + k) 0 ≡ packed bytes k
unfolding packed_key
packed_word key bytes k e h = ap (λ (l : List ℕ). get_or l (1 + k) 0) e ∙ ap (λ (j : ℕ). get_or (length bytes ∷ packed_words 31 bytes) j 0) (let s : 1 + k ≡ suc k = omega arith in s) ∙ packed_words-at 31 bytes k h

-- the bytes of a slice are bytes
pub all_bytes : (bytes : List ℕ) → ((k : ℕ) → Fits w8 (get_or bytes k 0)) → AllBytes bytes
all_bytes bytes fits k d h = let f : get_or bytes k 0 < 256 = omega (arith, fits k) in subst (λ (b : ℕ). b < 256) (sym (get_or_default bytes k d 0 h)) f

below : (bytes : List ℕ) → AllBytes bytes → (k : ℕ) → get_or bytes k 0 < 256
below [] all k = omega arith
below (b ∷ bs) all zero = all 0 0 (omega arith)
below (b ∷ bs) all (suc k) = below bs (λ j d h. all (suc j) d (omega arith)) k

-- what stands in the buffer is the byte string
pub reads_bytes : (key bytes out : List ℕ) → AllBytes bytes → length bytes ≤ 248 → key ≡ packed_key bytes → length out ≡ 248
    → ((k : ℕ) → k < 248 → get_or out k 0 ≡ byte_of (get_or key (1 + k / 8) 0) k) → take (length bytes) out ≡ bytes
reads_bytes key bytes out all short e long each =
    same_number_lists (take (length bytes) out) bytes cut (λ k h.
    let l : k < length bytes = omega (arith, cut) in
    let w : k / 8 < 31 = omega arith in
    get_or-take (length bytes) out k 0 l ∙ each k (omega arith) ∙ ap (λ (x : ℕ). byte_of x k) (packed_word key bytes (k / 8) e w) ∙ packed_byte bytes (k / 8) k (below bytes all) (own k) l)
  where
    cut : length (take (length bytes) out) ≡ length bytes
    cut = length-take (length bytes) out ∙ let m : min (length bytes) (length out) ≡ length bytes = omega arith in m

    own : (k : ℕ) → is_of_word (k / 8) k ≡ true
    own k = grind (arith, nat_tests)

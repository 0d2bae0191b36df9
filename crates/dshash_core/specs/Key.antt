-- Keys of the hash table: lists of words, and byte strings packed into 32 words.
use Rattle.std.specs.Prelude.{◌≡◌, ℕ, ◌+◌, ◌*◌, ◌/◌, ◌%◌, ◌^◌, ◌≤◌, ◌==◌, List, ◌∷◌, fold, length, bit_xor, if◌then◌else◌}
use Rattle.std.specs.Int.{w64, to_le_bytes}
use Rattle.std.specs.Hash.DefaultHasher as sip
use Rattle.std.specs.declared.hash.DefaultHasher.{DefaultHasher}
use Rattle.rel_pointer.specs.Bytes.{AllBytes, packed_words}

-- one byte in the Fowler-Noll-Vo hash FNV-1a of 32 bits, whose prime is 2^24 + 403
abbrev pub fnv_step : ℕ → ℕ → ℕ
fnv_step h byte = bit_xor h byte * 0x0100_0193 % 2 ^ 32

-- the hash of a word's eight bytes, the lowest first, after what was hashed before
abbrev pub fnv_word : ℕ → ℕ → ℕ
fnv_word h word = fold fnv_step h (to_le_bytes w64 word)

-- the first product of the finalizer of MurmurHash3 (fmix32), and the shifts before and after it
abbrev pub finalized : ℕ → ℕ
finalized h =
    let high = bit_xor h (h / 2 ^ 16) in
    let product = high * 0x85eb_ca6b % 2 ^ 32 in
    bit_xor product (product / 2 ^ 13)

-- the hash of a key: FNV-1a from its offset basis, then these shifts
unfoldable pub hash_of : List ℕ → ℕ
hash_of key = finalized (fold fnv_word 0x811c_9dc5 key)

-- SipHash-1-3 (Aumasson and Bernstein) with both of its keys 0, after one more word
abbrev pub sip_word : DefaultHasher → ℕ → DefaultHasher
sip_word hasher word = sip.write hasher (to_le_bytes w64 word)

-- the hash of a key in a table with a seed: the low half of what SipHash-1-3 makes of the seed, as the first word, and
-- the key's. With the seed 0 it is `hash_of`
unfoldable pub seeded_hash : ℕ → List ℕ → ℕ
seeded_hash seed key = if seed == 0 then hash_of key else sip.finish (fold sip_word (sip_word sip.initial seed) key) % 2 ^ 32

-- a byte string of at most 248 bytes as a key: its length, then its bytes in 31 words, the lowest first, with zeros
-- after them
unfoldable pub packed_key : List ℕ → List ℕ
packed_key bytes = length bytes ∷ packed_words 31 bytes

-- the key is that of a byte string
pub record IsPackedKey (key : List ℕ) : Type 0 where
  pub bytes : List ℕ
  pub are_bytes : AllBytes bytes
  pub short : length bytes ≤ 248
  pub packs : key ≡ packed_key bytes

-- the bytes of an item: the link, the hash, the key's words and the value's
abbrev pub item_size : ℕ → ℕ → ℕ
item_size key_words value_words = 8 * (2 + key_words + value_words)

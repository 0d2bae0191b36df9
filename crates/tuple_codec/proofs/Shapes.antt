-- The answers of the shape of a tuple.
use Rattle.std.proofs.Common.{◌≡◌, ◌<◌, ◌≤◌, ◌+◌, ◌*◌, ◌-◌, ℕ, List, length, slice_index, Some, refl, ap, arith, get_or}
use Rattle.std.proofs.lemmas.List.{get_or-take}
use Rattle.std.proofs.lemmas.Bool.{lt-ltb, le-ltb}
use Rattle.tuple_codec.specs.Tuple.{key_length, refusal, shape_refusal, slots_refusal}
use Rattle.tuple_codec.specs.declared.read.TupleRead.TheVariants as refused
use Rattle.par_model.specs.Refuse.{longest_key}

pub refusal-at : (bytes : List ℕ) (key : ℕ) → key_length bytes ≡ key → refusal bytes ≡ shape_refusal (length bytes) key (slice_index bytes (12 + key))
unfolding refusal
refusal-at bytes key e = ap (λ (k : ℕ). shape_refusal (length bytes) k (slice_index bytes (12 + k))) e

module _ (size key slots : ℕ) where
  pub no_length : size < 4 → shape_refusal size key slots ≡ Some (refused.Short 0)
  no_length h = rw (lt-ltb size 4 h) refl

  module _ (a : 4 ≤ size) where
    pub long_key : longest_key < key → shape_refusal size key slots ≡ Some (refused.Range 0)
    long_key h = rw (le-ltb size 4 a, lt-ltb longest_key key h) refl

    module _ (b : key ≤ longest_key) where
      pub short_key : size < 4 + key → shape_refusal size key slots ≡ Some (refused.Short 4)
      short_key h = rw (le-ltb size 4 a, le-ltb longest_key key b, lt-ltb size (4 + key) h) refl

      module _ (c : 4 + key ≤ size) where
        pub short_rows : size < 12 + key → shape_refusal size key slots ≡ Some (refused.Short (4 + key))
        short_rows h = rw (le-ltb size 4 a, le-ltb longest_key key b, le-ltb size (4 + key) c, lt-ltb size (12 + key) h) refl

        module _ (d : 12 + key ≤ size) where
          pub no_count : size < 13 + key → shape_refusal size key slots ≡ Some (refused.Short (12 + key))
          no_count h = rw (le-ltb size 4 a, le-ltb longest_key key b, le-ltb size (4 + key) c, le-ltb size (12 + key) d, lt-ltb size (13 + key) h) refl

          module _ (e : 13 + key ≤ size) where
            pub many_slots : 8 < slots → shape_refusal size key slots ≡ Some (refused.Range (12 + key))
            many_slots h = rw (le-ltb size 4 a, le-ltb longest_key key b, le-ltb size (4 + key) c, le-ltb size (12 + key) d, le-ltb size (13 + key) e, lt-ltb 8 slots h) refl

            pub by_slots : slots ≤ 8 → shape_refusal size key slots ≡ slots_refusal (13 + key) (size - (13 + key)) slots
            by_slots h = rw (le-ltb size 4 a, le-ltb longest_key key b, le-ltb size (4 + key) c, le-ltb size (12 + key) d, le-ltb size (13 + key) e, le-ltb 8 slots h) refl

-- the length of the key, read byte by byte
pub key_length-is : (bytes : List ℕ) (key : ℕ) → key ≡ get_or bytes 0 0 + get_or bytes 1 0 * 256 + get_or bytes 2 0 * 65536 + get_or bytes 3 0 * 16777216 → key_length bytes ≡ key
key_length-is bytes key e = omega (arith, e, get_or-take 4 bytes 0 0 (omega arith), get_or-take 4 bytes 1 0 (omega arith), get_or-take 4 bytes 2 0 (omega arith), get_or-take 4 bytes 3 0 (omega arith))

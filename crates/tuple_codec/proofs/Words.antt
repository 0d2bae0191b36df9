-- Words and slots as bytes, and the runs of bytes that they are read from.
use Rattle.std.proofs.Common.{◌≡◌, ◌<◌, ◌+◌, ◌*◌, ◌/◌, ◌%◌, ◌^◌, ◌++◌, ℕ, zero, suc, List, [], ◌∷◌, length, map, take, drop, refl, ap, sym, ◌∙◌, arith, length-append, append-nil, replicate}
use Rattle.std.specs.Int.{cast_signed, cast_unsigned, from_le_bytes, w64, w128}
use Rattle.std.specs.List.{AllByRecursion, concat}
use Rattle.std.proofs.Math.Seq.{take-add}
use Rattle.std.proofs.lemmas.Int.{of_z-to_z}
use Rattle.std.proofs.lemmas.List.{drop-drop, map-append}
use Rattle.std.proofs.lemmas.List.Folds.{concat-append}
use Rattle.std.proofs.lemmas.Nat.{from_le_bytes-to_le_bytes_8}
use Rattle.par_model.specs.Aggregate.{no_values}
use Rattle.par_model.specs.declared.state.SlotState.{SlotState}
use Rattle.tuple_codec.specs.Tuple.{IsSlot, signed_word, slot_bytes, sum_bytes, word}

pub length-word : (n : ℕ) → length (word n) ≡ 8
unfolding word
length-word n = refl

pub word-same : (m n : ℕ) → m < 2 ^ 64 → n < 2 ^ 64 → word m ≡ word n → m ≡ n
unfolding word
word-same m n h k e = sym (from_le_bytes-to_le_bytes_8 m h) ∙ ap (from_le_bytes w64) e ∙ from_le_bytes-to_le_bytes_8 n k

-- two runs, one after the other
pub runs : (m n at : ℕ) (bytes : List ℕ) → take (m + n) (drop at bytes) ≡ take m (drop at bytes) ++ take n (drop (at + m) bytes)
runs m n at bytes = take-add m n (drop at bytes) ∙ ap (λ (rest : List ℕ). take m (drop at bytes) ++ take n rest) (drop-drop m at bytes)

pub sum_read : (low high at : ℕ) (bytes : List ℕ) → low < 2 ^ 64 → high < 2 ^ 64 → word low ≡ take 8 (drop at bytes) → word high ≡ take 8 (drop (at + 8) bytes)
    → sum_bytes (cast_signed w128 (high * 2 ^ 64 + low)) ≡ take 16 (drop at bytes)
sum_read low high at bytes h k first second =
    let whole : cast_unsigned w128 (cast_signed w128 (high * 2 ^ 64 + low)) ≡ high * 2 ^ 64 + low = of_z-to_z w128 (high * 2 ^ 64 + low) (omega arith) in
    let low_is : cast_unsigned w128 (cast_signed w128 (high * 2 ^ 64 + low)) % 2 ^ 64 ≡ low = ap (λ (n : ℕ). n % 2 ^ 64) whole ∙ omega arith in
    let high_is : cast_unsigned w128 (cast_signed w128 (high * 2 ^ 64 + low)) / 2 ^ 64 ≡ high = ap (λ (n : ℕ). n / 2 ^ 64) whole ∙ omega arith in
    ap (λ (n : ℕ). word n ++ word (cast_unsigned w128 (cast_signed w128 (high * 2 ^ 64 + low)) / 2 ^ 64)) low_is
    ∙ ap (λ (n : ℕ). word low ++ word n) high_is
    ∙ ap (λ (bs : List ℕ). bs ++ word high) first ∙ ap (λ (bs : List ℕ). take 8 (drop at bytes) ++ bs) second
    ∙ sym (runs 8 8 at bytes)

pub signed_read : (n : ℕ) → n < 2 ^ 64 → signed_word (cast_signed w64 n) ≡ word n
signed_read n h = ap word (of_z-to_z w64 n h)

pub slot_read : (at : ℕ) (bytes a b c d : List ℕ) → a ≡ take 8 (drop at bytes) → b ≡ take 16 (drop (at + 8) bytes) → c ≡ take 8 (drop (at + 24) bytes) → d ≡ take 8 (drop (at + 32) bytes)
    → a ++ (b ++ (c ++ d)) ≡ take 40 (drop at bytes)
slot_read at bytes a b c d p q r s =
    let last : c ++ d ≡ take 16 (drop (at + 24) bytes) =
    ap (λ (bs : List ℕ). bs ++ d) r ∙ ap (λ (bs : List ℕ). take 8 (drop (at + 24) bytes) ++ bs) (s ∙ ap (λ (n : ℕ). take 8 (drop n bytes)) (later 24 8)) ∙ sym (runs 8 8 (at + 24) bytes) in
    let most : b ++ (c ++ d) ≡ take 32 (drop (at + 8) bytes) =
    ap (λ (bs : List ℕ). bs ++ (c ++ d)) q ∙ ap (λ (bs : List ℕ). take 16 (drop (at + 8) bytes) ++ bs) (last ∙ ap (λ (n : ℕ). take 16 (drop n bytes)) (later 8 16)) ∙ sym (runs 16 16 (at + 8) bytes) in
    ap (λ (bs : List ℕ). bs ++ (b ++ (c ++ d))) p ∙ ap (λ (bs : List ℕ). take 8 (drop at bytes) ++ bs) most ∙ sym (runs 8 32 at bytes)
  where
    later : (m n : ℕ) → at + (m + n) ≡ at + m + n
    later m n = omega arith

-- ---- lists of slots

pub all_append : {A : Type 0} (P : A → Type 0) (xs ys : List A) → AllByRecursion P xs → AllByRecursion P ys → AllByRecursion P (xs ++ ys)
all_append P [] ys p q = q
all_append P (x ∷ xs) ys p q = (p.0, all_append P xs ys p.1 q)

pub none_slot : IsSlot no_values
none_slot = (omega arith, record { sfits = omega arith }, record { sfits = omega arith }, record { sfits = omega arith })

pub none_slots : (n : ℕ) → AllByRecursion IsSlot (replicate n no_values)
none_slots zero = tt
none_slots (suc n) = (none_slot, none_slots n)

pub length-slot_bytes : (slot : SlotState) → length (slot_bytes slot) ≡ 40
length-slot_bytes slot =
    length-append (word slot.count) (sum_bytes slot.sum ++ (signed_word slot.least ++ signed_word slot.greatest))
    ∙ omega (
      arith,
      length-word slot.count,
      length-append (sum_bytes slot.sum) (signed_word slot.least ++ signed_word slot.greatest),
      length-append (word (cast_unsigned w128 slot.sum % 2 ^ 64)) (word (cast_unsigned w128 slot.sum / 2 ^ 64)),
      length-word (cast_unsigned w128 slot.sum % 2 ^ 64),
      length-word (cast_unsigned w128 slot.sum / 2 ^ 64),
      length-append (signed_word slot.least) (signed_word slot.greatest),
      length-word (cast_unsigned w64 slot.least),
      length-word (cast_unsigned w64 slot.greatest),
    )

pub length-slots_bytes : (slots : List SlotState) → length (concat (map slot_bytes slots)) ≡ 40 * length slots
length-slots_bytes [] = refl
length-slots_bytes (s ∷ slots) = length-append (slot_bytes s) (concat (map slot_bytes slots)) ∙ omega (arith, length-slot_bytes s, length-slots_bytes slots)

pub slots_bytes-push : (slots : List SlotState) (s : SlotState) → concat (map slot_bytes (slots ++ s ∷ [])) ≡ concat (map slot_bytes slots) ++ slot_bytes s
slots_bytes-push slots s = ap concat (map-append slot_bytes slots (s ∷ [])) ∙ concat-append (map slot_bytes slots) (slot_bytes s ∷ []) ∙ ap (λ (bs : List ℕ). concat (map slot_bytes slots) ++ bs) (append-nil (slot_bytes s))

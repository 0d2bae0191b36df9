-- Whether a field is one of the texts between commas, found by a search for each comma.
use Rattle.std.proofs.Common.{◌≡◌, ◌≢◌, ◌<◌, ◌≤◌, ◌+◌, ◌∙◌, ℕ, suc, Bool, true, false, List, [], ◌∷◌, Some, None, take, drop, length, refl, ap, inl, inr, arith}
use Rattle.std.specs.Prelude.{◌==◌, ◌||◌, bytes_eq}
use Rattle.std.specs.List.{All, list_any, onto_first, position_or_len, slice_split}
use Rattle.std.proofs.lemmas.Bool.{cases_Bool}
use Rattle.std.proofs.lemmas.List.Elements.{All-cons, All-from_get_or, All-head, All-nil, All-tail, All-weaker}
use Rattle.std.proofs.lemmas.List.Folds.{list_any_none}
use Rattle.std.proofs.lemmas.List.Splits.{slice_split-cons_no, slice_split-cons_yes, slice_split_first, slice_split_none}
use Rattle.std.proofs.lemmas.List.Sums.{position_or_len_is}
use Rattle.std.proofs.lemmas.Slice.Eq.{bytes_eq-Decides}
use Rattle.memchr.specs.Find.{IsFirstByte, is_byte}
use Rattle.csv_rows.specs.Readings.{is_among}

-- no part is longer than the text
looser : (n : ℕ) (parts : List (List ℕ)) → All (λ part. length part ≤ n) parts → All (λ part. length part ≤ suc n) parts
looser n parts h = All-weaker (λ part. length part ≤ n) (λ part. length part ≤ suc n) (λ part within. omega (arith, within)) parts h

onto-short : (x n : ℕ) (parts : List (List ℕ)) → All (λ part. length part ≤ n) parts → All (λ part. length part ≤ suc n) (onto_first x parts)
onto-short x n [] h = All-cons (λ part. length part ≤ suc n) (x ∷ []) [] (omega arith) (All-nil (λ part. length part ≤ suc n))
onto-short x n (part ∷ parts) h =
    let first : length part ≤ n = All-head (λ part. length part ≤ n) part parts h in
    All-cons (λ part. length part ≤ suc n) (x ∷ part) parts (omega (arith, first)) (looser n parts (All-tail (λ part. length part ≤ n) part parts h))

parts-short : (p : ℕ → Bool) (xs : List ℕ) → All (λ part. length part ≤ length xs) (slice_split p xs)
parts-short p [] = All-cons (λ part. length part ≤ 0) [] [] (omega arith) (All-nil (λ part. length part ≤ 0))
parts-short p (x ∷ xs) = elim (cases_Bool (p x)) [
  | inl e ↦ rw (slice_split-cons_yes p x xs e) (All-cons (λ part. length part ≤ suc (length xs)) [] (slice_split p xs) (omega arith) (looser (length xs) (slice_split p xs) (parts-short p xs)))
  | inr e ↦ rw (slice_split-cons_no p x xs e) (onto-short x (length xs) (slice_split p xs) (parts-short p xs))
]

-- so a longer field is none of them
not-equal : (field part : List ℕ) → length part < length field → bytes_eq field part ≡ false
not-equal field part short = elim (cases_Bool (bytes_eq field part)) [
  | inl e ↦ absurd (omega (arith, short, ap length ((bytes_eq-Decides field part).0 e)))
  | inr e ↦ e
]

none-equal : (field : List ℕ) (n : ℕ) (parts : List (List ℕ)) → n < length field → All (λ part. length part ≤ n) parts → All (λ part. bytes_eq field part ≡ false) parts
none-equal field n parts long h =
    All-weaker (λ part. length part ≤ n) (λ part. bytes_eq field part ≡ false) (λ part within. not-equal field part (omega (arith, long, within))) parts h

pub longer : (field texts : List ℕ) → length texts < length field → is_among field texts ≡ false
longer field texts long =
    let parts = slice_split (λ byte. byte == 44) texts in
    list_any_none (bytes_eq field) parts (none-equal field (length texts) parts long (parts-short (λ byte. byte == 44) texts))

-- a byte that passes no test
no-byte : (b : Bool) → b ≢ true → b ≡ false
no-byte true h = absurd (h refl)
no-byte false h = refl

-- the first comma ends the first part
pub first-part : (field rest : List ℕ) (count : ℕ) → IsFirstByte (is_byte 44) rest (Some count) → is_among field rest ≡ (bytes_eq field (take count rest) || is_among field (drop (count + 1) rest))
first-part field rest count found =
    let place = position_or_len_is (λ byte. byte == 44) rest count 0 (omega (arith, found.0.high)) (λ k lt. no-byte _ (found.0.before k (omega arith) lt)) (λ lt. found.1) in
    let within : position_or_len (λ byte. byte == 44) rest < length rest = rw place found.0.high in
    ap (list_any (bytes_eq field)) (rw place at (slice_split_first (λ byte. byte == 44) rest 0 within))

or-none : (b : Bool) → (b || false) ≡ b
or-none true = refl
or-none false = refl

-- with no comma there is one part
pub only-part : (field rest : List ℕ) → IsFirstByte (is_byte 44) rest None → is_among field rest ≡ bytes_eq field rest
only-part field rest none =
    let all : All (λ byte. (byte == 44) ≡ false) rest = All-from_get_or (λ byte. (byte == 44) ≡ false) rest 0 (λ k lt. no-byte _ (none k (omega arith) lt)) in
    ap (list_any (bytes_eq field)) (slice_split_none (λ byte. byte == 44) rest all) ∙ or-none (bytes_eq field rest)

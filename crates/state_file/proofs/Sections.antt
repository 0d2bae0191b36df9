-- What some bytes begin with, if that is a section.
use Rattle.std.proofs.Common.{◌≡◌, ◌<◌, ◌-◌, ◌^◌, ◌++◌, ◌∙◌, ℕ, List, length, refl, ap, sym, arith, append_assoc, fold}
use Rattle.std.specs.Int.{to_le_bytes, w32}
use Rattle.state_file.specs.Checksum.{crc32c, taken_in}
use Rattle.state_file.specs.Section.{section, section_with}

-- a section in front of other bytes, piece by piece
pieces : (size part sum rest : List ℕ) → (size ++ (part ++ sum)) ++ rest ≡ size ++ (part ++ (sum ++ rest))
pieces size part sum rest = simp append_assoc

pushed : (out size part sum : List ℕ) → ((out ++ size) ++ part) ++ sum ≡ out ++ (size ++ (part ++ sum))
pushed out size part sum = simp append_assoc

pub section-is : (part : List ℕ) → section part ≡ section_with part (crc32c part)
unfolding section
section-is part = refl

pub sum_fits : (bytes : List ℕ) → crc32c bytes < 2 ^ 32
unfolding crc32c
sum_fits bytes = less (fold taken_in (2 ^ 32 - 1) bytes)
  where
    less : (n : ℕ) → 2 ^ 32 - 1 - n < 2 ^ 32
    less n = omega arith

pub read_as : (bytes after part rest : List ℕ) (size sum : ℕ) → bytes ≡ to_le_bytes w32 size ++ after → after ≡ part ++ (to_le_bytes w32 sum ++ rest) → length part ≡ size
    → bytes ≡ section_with part sum ++ rest
read_as bytes after part rest size sum is more long =
    is ∙ ap (λ (n : ℕ). to_le_bytes w32 n ++ after) (sym long) ∙ ap (λ (bs : List ℕ). to_le_bytes w32 (length part) ++ bs) more
    ∙ sym (pieces (to_le_bytes w32 (length part)) part (to_le_bytes w32 sum) rest)

pub written_as : (bytes part rest : List ℕ) → bytes ≡ section part ++ rest → bytes ≡ to_le_bytes w32 (length part) ++ (part ++ (to_le_bytes w32 (crc32c part) ++ rest))
written_as bytes part rest e =
    e ∙ ap (λ (bs : List ℕ). bs ++ rest) (section-is part) ∙ pieces (to_le_bytes w32 (length part)) part (to_le_bytes w32 (crc32c part)) rest

-- three pieces that were put at the end, one after another
pub chained : (out one two three a part b size sum : List ℕ) → one ≡ out ++ a → two ≡ one ++ part → three ≡ two ++ b → a ≡ size → b ≡ sum → three ≡ out ++ (size ++ (part ++ sum))
chained out one two three a part b size sum p q r s t =
    r ∙ ap (λ (xs : List ℕ). xs ++ b) (q ∙ ap (λ (xs : List ℕ). xs ++ part) p) ∙ ap (λ (xs : List ℕ). ((out ++ a) ++ part) ++ xs) t
    ∙ ap (λ (xs : List ℕ). ((out ++ xs) ++ part) ++ sum) s ∙ pushed out size part sum

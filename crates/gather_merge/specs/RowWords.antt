-- The words by which rows compare before anything of them is looked at.
use Rattle.std.specs.Prelude.{◌≡◌, ◌<◌, ◌+◌, ◌*◌, ◌^◌, ℕ, zero, suc, List, [], ◌∷◌, drop, get_or, length, min, slice_index_or}
use Rattle.std.specs.Ordering.{nat_cmp, ordering_then}
use Rattle.std.specs.declared.cmp.Ordering.{Ordering}
use Rattle.par_model.specs.Table.{columns_cmp}

-- each is a byte
abbrev pub AreBytes : List ℕ → Type 0
AreBytes text = (k : ℕ) → get_or text k 0 < 256

-- the number that the first n bytes of a text make, the highest first; zeros follow a text's end
abbrev pub chunk : ℕ → List ℕ → ℕ
chunk zero text = 0
chunk (suc n) [] = 0
chunk (suc n) (b ∷ text) = b * 256 ^ n + chunk n text

-- the word of a text: its first seven bytes, and then its length, with 8 for all lengths from 8 on
unfoldable pub word : List ℕ → ℕ
word text = chunk 7 text * 256 + min (length text) 8

-- ---- rows, of which each has some columns

-- what a row has in a column, from a byte on
abbrev pub text_at : (ℕ → List (List ℕ)) → ℕ → ℕ → ℕ → List ℕ
text_at columns column from row = drop from (get_or (columns row) column [])

-- how two rows compare by the columns from one on, and then by their numbers
abbrev pub tail_cmp : (ℕ → List (List ℕ)) → ℕ → ℕ → ℕ → Ordering
tail_cmp columns column a b = ordering_then (columns_cmp (drop column (columns a)) (drop column (columns b))) (nat_cmp a b)

-- a list has the word of each row's first column
pub record AreWords (columns : ℕ → List (List ℕ)) (words : List ℕ) : Type 0 where
  pub each : (row : ℕ) → get_or words row 0 ≡ word (text_at columns 0 0 row)
  pub bytes : (row : ℕ) → AreBytes (text_at columns 0 0 row)

-- a number is the word of a row's first column
pub record HasWord (columns : ℕ → List (List ℕ)) (row w : ℕ) : Type 0 where
  pub is : w ≡ word (text_at columns 0 0 row)
  pub bytes : AreBytes (text_at columns 0 0 row)

-- each place of a list has the word of the row of its number
pub record AreLoaded (columns : ℕ → List (List ℕ)) (old new : List ℕ) : Type 0 where
  pub long : length new ≡ length old
  pub each : (row d : ℕ) → row < length old → HasWord columns row (slice_index_or new row d)

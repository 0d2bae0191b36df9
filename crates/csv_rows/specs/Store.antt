-- A store of records: the bytes of the fields in one list, the place where each field ends among them, and the place where
-- each record ends among the fields.
use Rattle.std.specs.Prelude.{◌≡◌, ◌<◌, ◌≤◌, ◌+◌, ◌-◌, ℕ, zero, suc, List, [], ◌∷◌, take, drop, length}
use Rattle.csv.specs.Records.{Rising, cut_from, last_end}
use Rattle.par_model.specs.Outcome.{most_rows}

-- the groups of a list that end at these places, after a start
unfoldable pub group_from : {A : Type 0} → ℕ → List ℕ → List A → List (List A)
group_from start [] xs = []
group_from start (end ∷ ends) xs = take (end - start) (drop start xs) ∷ group_from end ends xs

-- the places rise, and the last of them is the end
abbrev pub Covers : List ℕ → ℕ → Type 0
Covers ends size = Rising 0 ends size × (last_end 0 ends ≡ size)

-- the fields of the bytes, and the records of those
abbrev pub stored : List ℕ → List ℕ → List ℕ → List (List (List ℕ))
stored bytes ends row_ends = group_from 0 row_ends (cut_from 0 ends bytes)

-- the fields that end at these places, each of which starts this many bytes after the end of the one before
unfoldable pub cut_apart : ℕ → ℕ → List ℕ → List ℕ → List (List ℕ)
cut_apart gap start [] bytes = []
cut_apart gap start (end ∷ ends) bytes = take (end - start) (drop start bytes) ∷ cut_apart gap (end + gap) ends bytes

-- where the field after these would start
unfoldable pub next_start : ℕ → ℕ → List ℕ → ℕ
next_start gap start [] = start
next_start gap start (end ∷ ends) = next_start gap (end + gap) ends

-- where the field of this number starts
unfoldable pub field_start : ℕ → ℕ → List ℕ → ℕ → ℕ
field_start gap start [] i = start
field_start gap start (end ∷ ends) zero = start
field_start gap start (end ∷ ends) (suc i) = field_start gap (end + gap) ends i

-- no field ends before it starts, and the last of them ends within the bytes
unfoldable pub Apart : ℕ → ℕ → List ℕ → ℕ → Type 0
Apart gap start [] size = start ≤ size + gap
Apart gap start (end ∷ ends) size = (start ≤ end) × Apart gap (end + gap) ends size

-- the records of fields between which this many bytes lie
abbrev pub stored_apart : ℕ → List ℕ → List ℕ → List ℕ → List (List (List ℕ))
stored_apart gap bytes ends row_ends = group_from 0 row_ends (cut_apart gap 0 ends bytes)

-- what the lists of a store keep: the places of both rise and end within, and there is a header, and after it no more
-- rows than an input may have
pub record IsStore (gap : ℕ) (bytes ends row_ends : List ℕ) : Type 0 where
  pub fields : Apart gap 0 ends (length bytes)
  pub rows : Rising 0 row_ends (length ends)
  pub some : 0 < length row_ends
  pub few : length row_ends ≤ most_rows + 1

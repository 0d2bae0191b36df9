-- The places where the records of a store end: a number for each record, most of which need not be written down.
use Rattle.std.specs.Prelude.{◌≡◌, ◌*◌, ℕ, List, [], ◌++◌, map}
use Rattle.std.specs.List.{range_with_len}

-- the first multiples of a width, beginning with the width itself
abbrev pub multiples : ℕ → ℕ → List ℕ
multiples width count = map (λ n. n * width) (range_with_len 1 count)

-- the ends of some records of one width, and then those of the later records
abbrev pub row_ends_of : ℕ → ℕ → List ℕ → List ℕ
row_ends_of width even later = multiples width even ++ later

-- the first record counts as one of the width, so without any of these there is no record
abbrev pub BeginsEven : ℕ → List ℕ → Type 0
BeginsEven even later = even ≡ 0 → later ≡ []

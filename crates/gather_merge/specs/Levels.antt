-- Rows paired with their words, sorted level by level: a level is a column, and a byte of it.
use Rattle.std.specs.Prelude.{◌≡◌, ◌<◌, ◌+◌, ◌%◌, ℕ, List, All, MatchBool, length, map, nat_lt, slice_index_or}
use Rattle.std.specs.Cmp.Lexicographic.{slice_cmp}
use Rattle.std.specs.List.Sorted.{IsPermutation, IsSorted}
use Rattle.std.specs.Ordering.{nat_cmp, ordering_then}
use Rattle.std.specs.declared.cmp.Ordering.{Ordering}
use Rattle.gather_merge.specs.RowWords.{AreBytes, tail_cmp, text_at, word}
use Rattle.gather_merge.specs.declared.sorting.Keyed.{Keyed}

-- how rows compare by what is left of a column from a byte on, by the columns after it, and then by their numbers
abbrev pub level_cmp : (ℕ → List (List ℕ)) → ℕ → ℕ → ℕ → ℕ → Ordering
level_cmp columns column from a b = ordering_then (slice_cmp nat_cmp (text_at columns column from a) (text_at columns column from b)) (tail_cmp columns (column + 1) a b)

-- rows are the same up to a level, so they compare by what is left from there
abbrev pub AreTied : (ℕ → ℕ → Ordering) → (ℕ → List (List ℕ)) → ℕ → ℕ → List ℕ → Type 0
AreTied cmp columns column from rows = All (λ a. All (λ b. cmp a b ≡ level_cmp columns column from a b) rows) rows

-- the level after one whose word is given: the next column, if the word is whole, and else seven bytes on
abbrev pub Follows : ℕ → ℕ → ℕ → ℕ → ℕ → Type 0
Follows word column from column' from' = MatchBool (nat_lt (word % 256) 8) ((column' ≡ column + 1) × (from' ≡ 0)) ((column' ≡ column) × (from' ≡ from + 7))

-- ---- pairs of a word and a row

-- pairs compare by their words, and then by their rows' numbers
abbrev pub pair_cmp : Keyed → Keyed → Ordering
pair_cmp x y = ordering_then (nat_cmp x.word y.word) (nat_cmp x.row y.row)

-- the rows of pairs
abbrev pub rows_of : List Keyed → List ℕ
rows_of run = map (λ (k : Keyed). k.row) run

-- the word of the pair at a place of a run, and zero past its end
abbrev pub word_of_pair : List Keyed → ℕ → ℕ
word_of_pair run k = (slice_index_or run k (record { word = 0; row = 0 })).word

-- all have the same word
abbrev pub HaveOneWord : List Keyed → Type 0
HaveOneWord ties = (k : ℕ) → k < length ties → word_of_pair ties k ≡ word_of_pair ties 0

-- a row is paired with its word of a level
pub record IsWorded (columns : ℕ → List (List ℕ)) (column from : ℕ) (k : Keyed) : Type 0 where
  pub is : k.word ≡ word (text_at columns column from k.row)
  pub bytes : AreBytes (text_at columns column from k.row)

-- a list has the elements of another, in order
pub record Sorts (cmp : ℕ → ℕ → Ordering) (old new : List ℕ) : Type 0 where
  pub each : IsPermutation old new
  pub rising : IsSorted cmp new

-- The table that a `Toc` holds, and what it has of it besides the words.
use Rattle.std.specs.Prelude.{◌≡◌, ℕ, ◌-◌, ◌/◌, ◌≤◌, true, cond, Option, None, IsSome}
use Rattle.word_map.specs.WordMap.{WordMap, at, is_within, Disjoint, HasJust}
use Rattle.region_words.specs.Parts.{Owned}
use Rattle.shm_toc.specs.Table.{word_of, IsTable}

-- words 1 to 3 of the table have these values, and the words below its chunks are all that is there
pub record IsHeld (m : WordMap) (total taken count : ℕ) : Type 0 where
  pub table : IsTable m
  pub total_is : word_of m 1 ≡ total
  pub taken_is : word_of m 2 ≡ taken
  pub count_is : word_of m 3 ≡ count
  pub row : HasJust m 0 ((total - taken) / 8)

-- the new words are some of the old ones
abbrev pub HasNoMore : WordMap → WordMap → Type 0
HasNoMore old new = (k : ℕ) → IsSome (at new k) → IsSome (at old k)

-- the len words from `from`, all of which were there, go out, and the other words from `front` on are as before
pub record GivesRow (from len front : ℕ) (old new : WordMap) : Type 0 where
  pub had : (k : ℕ) → is_within from len k ≡ true → IsSome (at old k)
  pub others : (k : ℕ) → front ≤ k → at new k ≡ cond {A = Option ℕ} (is_within from len k) None (at old k)

-- the words that hold a table and those that it kept are of one region and have no word in common
pub record IsKept (growing kept : Owned) : Type 0 where
  pub table : IsTable growing.words
  pub here : kept.region ≡ growing.region
  pub apart : Disjoint growing.words kept.words

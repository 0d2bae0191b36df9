-- What the words of a table of contents mean. The layout is that of shm_toc.c, except for the header, which has no
-- lock.
use Rattle.std.specs.Prelude.{◌≡◌, ℕ, zero, suc, ◌+◌, ◌-◌, ◌*◌, ◌/◌, ◌%◌, ◌<◌, ◌≤◌, ◌^◌, ◌==◌, cond, List, [], ◌∷◌, length, sum_by, Option, Some, None, IsSome, unwrap_or}
use Rattle.word_map.specs.WordMap.{WordMap, at}

-- a key and its place, a word number
pub record Entry : Type 0 where
  pub key : ℕ
  pub place : ℕ

-- a table of contents: its magic number, the bytes of its segment, the bytes that it gave as chunks, and its entries,
-- oldest first
pub record Table : Type 0 where
  pub magic : ℕ
  pub total : ℕ
  pub taken : ℕ
  pub entries : List Entry

-- a number rounded up to a multiple of 32
abbrev pub rounded : ℕ → ℕ
rounded bytes = (bytes + 31) / 32 * 32

-- the bytes for chunks of these sizes and this many keys: a header of 32 bytes, 16 for each key, and each chunk rounded
-- up
abbrev pub estimated : List ℕ → ℕ → ℕ
estimated chunks keys = rounded (32 + 16 * keys + sum_by rounded chunks)

-- the bytes that are left: the total less the header, 16 for each entry and the chunks
abbrev pub free_bytes_of : Table → ℕ
free_bytes_of t = t.total - 32 - 16 * length t.entries - t.taken

-- the first word of the chunks
abbrev pub low_of : Table → ℕ
low_of t = (t.total - t.taken) / 8

-- the first word after the entries
abbrev pub front_of : Table → ℕ
front_of t = 4 + 2 * length t.entries

-- the place of a key, in the first entry that has it
abbrev pub place_of : List Entry → ℕ → Option ℕ
place_of [] key = None
place_of (e ∷ es) key = cond (e.key == key) (Some e.place) (place_of es key)

-- no two entries have one key
abbrev pub HasDifferentKeys : List Entry → Type 0
HasDifferentKeys [] = Unit {0}
HasDifferentKeys (e ∷ es) = (place_of es e.key ≡ None) × HasDifferentKeys es

-- the value of a word
abbrev pub word_of : WordMap → ℕ → ℕ
word_of m k = unwrap_or (at m k) 0

-- the n entries from word k on
abbrev pub entries_from : WordMap → ℕ → ℕ → List Entry
entries_from m k zero = []
entries_from m k (suc n) = record { key = word_of m k; place = word_of m (suc k) } ∷ entries_from m (suc (suc k)) n

-- the table that lies in the words from word 0 on
abbrev pub table_of : WordMap → Table
table_of m = record { magic = word_of m 0; total = word_of m 1; taken = word_of m 2; entries = entries_from m 4 (word_of m 3) }

-- the words have room for the table: all words below its chunks are there, and what it says fits
pub record HasRoomFor (m : WordMap) (t : Table) : Type 0 where
  pub owns : (k : ℕ) → 8 * k + t.taken < t.total → IsSome (at m k)
  pub room : 32 + 16 * length t.entries + t.taken ≤ t.total
  pub whole : t.total % 32 ≡ 0
  pub whole_chunks : t.taken % 32 ≡ 0
  pub small : t.total ≤ 2 ^ 29
  pub different : HasDifferentKeys t.entries

-- the words have a table
abbrev pub IsTable : WordMap → Type 0
IsTable m = HasRoomFor m (table_of m)

-- Lines of runs by their places, and the numbers by which they are put in order.
use Rattle.std.specs.Prelude.{◌≡◌, ◌<◌, ◌+◌, ◌++◌, ℕ, List, [], All, get_or, length, take}
use Rattle.key_index.specs.Front.{AllBytes, leading}
use Rattle.result_text.specs.KeyColumns.{columns_in, first_column}
use Rattle.line_runs.specs.Entries.{Entry, no_entry}
use Rattle.line_runs.specs.declared.order.LineRef.{LineRef}
use Rattle.line_runs.specs.declared.order.Shared.{Shared}

-- a line's run, and its place there
abbrev pub place_of : LineRef → ℕ × ℕ
place_of line = (line.run, line.at)

-- the entry at a place of a run
abbrev pub entry_there : List (List Entry) → ℕ × ℕ → Entry
entry_there runs place = get_or (get_or runs place.0 []) place.1 no_entry

-- the entry of a line
abbrev pub entry_at : List (List Entry) → LineRef → Entry
entry_at runs line = entry_there runs (place_of line)

-- this many columns of a line's key
abbrev pub columns_at : ℕ → List (List Entry) → LineRef → List (List ℕ)
columns_at count runs line = columns_in count (entry_at runs line).0

-- what keys share begins with some whole columns, fewer than the keys have: whatever comes after them, first these columns
-- are read, and then those of what comes after
pub record IsWhole (count : ℕ) (s : Shared) : Type 0 where
  pub columns : List (List ℕ)
  pub few : length columns < count
  pub read : (more : ℕ) (rest : List ℕ) → columns_in (length columns + more) (s.columns.now ++ rest) ≡ columns ++ columns_in more rest

-- a key's number: 8 bytes of the column after the shared ones, after what is shared of it
pub record IsNumberOf (s : Shared) (key : List ℕ) (number : ℕ) : Type 0 where
  pub rest : List ℕ
  pub is : key ≡ s.columns.now ++ rest
  pub more : List ℕ
  pub column : first_column rest ≡ s.front.now ++ more
  pub leads : number ≡ leading 8 more
  pub bytes : AllBytes (take 8 more)

-- a line has the number of its key
abbrev pub IsNumbered : Shared → List (List Entry) → LineRef → Type 0
IsNumbered s runs line = IsNumberOf s (entry_at runs line).0 line.number

-- lines have the numbers of their keys
pub record AreNumbered (count : ℕ) (runs : List (List Entry)) (lines : List LineRef) : Type 0 where
  pub shared : Shared
  pub whole : IsWhole count shared
  pub each : All (IsNumbered shared runs) lines

-- The front of a source: its header.
use Rattle.std.specs.Prelude.{◌≡◌, ◌≤◌, ◌+◌, ◌⊎◌, ◌++◌, ℕ, List, Option, length, take}
use Rattle.std.specs.Io.KnownBytes.{Consumes, IsAtEnd}
use Rattle.csv_rows.specs.Records.{records_of}
use Rattle.row_windows.specs.Seams.{IsCutAt}

-- this many bytes more were read of a source
pub record IsMore (old new : Option (List ℕ)) (was now : List ℕ) (count : ℕ) : Type 0 where
  pub more : List ℕ
  pub reads : Consumes old new more
  pub is : now ≡ was ++ more
  pub long : length more ≡ count

-- a text can be cut behind its first record, which ends here
pub record EndsHere (text : List ℕ) (end : ℕ) : Type 0 where
  pub cut : IsCutAt text end
  pub one : length (records_of (take end text)) ≡ 1

-- or it is all that a source had, with one record at most
pub record IsAll (text : List ℕ) (end : ℕ) (left : Option (List ℕ)) : Type 0 where
  pub all : end ≡ length text
  pub one : length (records_of text) ≤ 1
  pub at_end : IsAtEnd left

-- two bytes come after the header, unless it is near the end of the source
abbrev pub HasTwo : List ℕ → ℕ → Option (List ℕ) → Type 0
HasTwo text end left = (end + 2 ≤ length text) ⊎ IsAtEnd left

-- at most one byte of a text comes after its header
pub record EndsLate (text : List ℕ) : Type 0 where
  pub front : List ℕ
  pub rest : List ℕ
  pub are : text ≡ front ++ rest
  pub late : length rest ≤ 1
  pub one : length (records_of front) ≤ 1

abbrev pub IsHeaded : List ℕ → ℕ → Option (List ℕ) → Type 0
IsHeaded text end left = EndsHere text end ⊎ IsAll text end left

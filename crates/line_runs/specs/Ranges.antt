-- Ranges of a table's order, by a sample of its keys, and what a range has of runs.
use Rattle.std.specs.Prelude.{◌≡◌, ◌<◌, ◌≤◌, ◌/◌, ◌+◌, ◌==◌, ℕ, Bool, true, false, List, Result, All, IfOk, drop, filter, get_or, length, map, slice_index_or, take}
use Rattle.std.specs.Global.{Vec}
use Rattle.std.specs.List.{concat, flat_map}
use Rattle.std.specs.List.Sorted.{IsPermutation, IsSortedBy}
use Rattle.std.specs.Ordering.{is_lt}
use Rattle.std.specs.declared.alloc.AllocError.{AllocError}
use Rattle.par_model.specs.Table.{columns_cmp}
use Rattle.result_text.specs.KeyColumns.{columns_in}
use Rattle.line_runs.specs.Entries.{Entry, all_entries, comes_before, no_entry}
use Rattle.line_runs.specs.declared.ranges.Ranges.{Ranges}
use Rattle.line_runs.specs.declared.ranges.TheConstants.{SAMPLE}

-- whether a key comes before another, by this many columns
abbrev pub is_before : ℕ → List ℕ → List ℕ → Bool
is_before columns a b = is_lt (columns_cmp (columns_in columns a) (columns_in columns b))

-- the sample is in the order of the table
abbrev pub AreOrdered : Ranges → Type 0
AreOrdered r = IsSortedBy (λ a b. is_before r.columns a.now b.now) r.sample.items

-- how many keys of the sample come before a key
abbrev pub count_before : Ranges → List ℕ → ℕ
count_before r key = length (filter (λ other. is_before r.columns other.now key) r.sample.items)

-- the number of a key's range
abbrev pub range_of : Ranges → List ℕ → ℕ
range_of r key = count_before r key / SAMPLE

-- the number of ranges
abbrev pub count_of : Ranges → ℕ
count_of r = length r.sample.items / SAMPLE + 1

-- no key from one place of a run on to another comes after a key, by this many columns
abbrev pub NoneAfter : ℕ → List Entry → List ℕ → ℕ → ℕ → Type 0
NoneAfter count run key from to = (k : ℕ) → from ≤ k → k < to → is_before count key (get_or run k no_entry).0 ≡ false

-- and each does
abbrev pub AllAfter : ℕ → List Entry → List ℕ → ℕ → ℕ → Type 0
AllAfter count run key from to = (k : ℕ) → from ≤ k → k < to → is_before count key (get_or run k no_entry).0 ≡ true

-- the place of a run whose key is the first that comes after a key
pub record IsPlaceAfter (count : ℕ) (run : List Entry) (key : List ℕ) (place : ℕ) : Type 0 where
  pub within : place ≤ length run
  pub before : NoneAfter count run key 0 place
  pub after : AllAfter count run key place (length run)

-- at a place a run is cut in front of a range: before it are keys of lower ranges, and from it on there are none
pub record IsCutAt (r : Ranges) (range : ℕ) (run : List Entry) (place : ℕ) : Type 0 where
  pub within : place ≤ length run
  pub below : All (λ entry. range_of r entry.0 < range) (take place run)
  pub above : All (λ entry. range ≤ range_of r entry.0) (drop place run)

-- whether an entry is of a range
abbrev pub is_of : Ranges → ℕ → Entry → Bool
is_of r range entry = range_of r entry.0 == range

-- the entries of a range in some runs
abbrev pub entries_of : Ranges → List (List Entry) → ℕ → List Entry
entries_of r runs range = flat_map (λ run. filter (is_of r range) run) runs

-- a run has the lines of a range, in the order of the table
pub record IsRangeRun (r : Ranges) (runs : List (List Entry)) (range : ℕ) (run : List Entry) : Type 0 where
  pub same : IsPermutation (entries_of r runs range) run
  pub sorted : IsSortedBy (comes_before r.columns) run

-- runs have the lines of each range, if there was memory for them
pub record AreRangeRuns (r : Ranges) (runs : List (List Entry)) (count : ℕ) (made : List (Result (List Entry) AllocError)) : Type 0 where
  pub many : length made ≡ count
  pub each : (k : ℕ) (d : Result (List Entry) AllocError) → k < length made → IfOk (slice_index_or made k d) (IsRangeRun r runs k)

-- other runs have the lines of some, in the order of the table, one run after another
pub record AreInOrder (columns : ℕ) (runs others : List (List Entry)) : Type 0 where
  pub same : IsPermutation (all_entries runs) (all_entries others)
  pub sorted : IsSortedBy (comes_before columns) (all_entries others)

-- a text has the lines of a range, in the order of the table
pub record IsRangeText (r : Ranges) (runs : List (List Entry)) (range : ℕ) (text : List ℕ) : Type 0 where
  pub entries : List Entry
  pub same : IsPermutation (entries_of r runs range) entries
  pub sorted : IsSortedBy (comes_before r.columns) entries
  pub is : text ≡ concat (map (λ entry. entry.1) entries)

-- texts have the lines of each range, if there was memory for them
pub record AreRangeTexts (r : Ranges) (runs : List (List Entry)) (count : ℕ) (texts : List (Result (Vec ℕ) AllocError)) : Type 0 where
  pub many : length texts ≡ count
  pub each : (k : ℕ) (d : Result (Vec ℕ) AllocError) → k < length texts → IfOk (slice_index_or texts k d) (λ text. IsRangeText r runs k text.items)

-- What a contract sees of the table of a query's groups, and of a participant's passes.
use Rattle.std.specs.Prelude.{◌≡◌, ℕ, ◌+◌, List, [], Option, Some, None, length}
use mathlib.Core.Option.{some}
use lib.ListN.{get_elem?}
use Rattle.atomic_table.specs.Seated.{TableId}
use Rattle.lock_book.specs.History.{StartsWith}
use Rattle.lock_book.specs.Shown.{mine_of, number_of, seen_of}
use Rattle.size_classes.specs.Classes.{IsClass}
use Rattle.free_pages.specs.Area.{area_size}
use Rattle.dsa_area.specs.Shown.{IsArea, IsFresh, Belongs as AreaBelongs, callers_of as area_callers, number_of as area_number, pages_mine, pages_seen as pages_shown, pool_mine, pool_seen}
use Rattle.dshash_parts.specs.Tables.{IsHome, IsTable, Belongs as TableBelongs, callers_of as table_callers, key_words_of}
use Rattle.agg_table.specs.Calls.{Use}
use Rattle.agg_table.specs.declared.part.HashPart.{HashPart}
use Rattle.agg_table.specs.declared.part.HashSeat.{HashSeat}

-- how many participants the table has
abbrev pub callers_of : HashPart → ℕ
callers_of p = table_callers p.table

-- a participant's number
abbrev pub number_at : HashSeat → ℕ
number_at s = number_of s.table

-- what a participant did with the table, as its passes show it
abbrev pub use_of : HashSeat → Use
use_of s = record { turns = mine_of s.table; pages = pages_mine s.area }

-- the table and its area are in this region; the table was made with it; its keys have 32 words; both have the same callers
pub record IsPart (region : TableId) (p : HashPart) : Type 0 where
  pub area : IsArea region p.area
  pub table : IsTable region p.table
  pub home : IsHome p.area p.table
  pub keys : key_words_of p.table ≡ 32
  pub callers : area_callers p.area ≡ table_callers p.table

-- the words of a table's chunk: its 128 slices, and then an area of this many pages
abbrev pub part_size : ℕ → ℕ
part_size pages = 128 + area_size pages

-- the passes are of this table and its area, and of one participant
pub record IsSeat (p : HashPart) (s : HashSeat) : Type 0 where
  pub area : AreaBelongs p.area s.area
  pub table : TableBelongs p.table s.table
  pub same : area_number s.area ≡ number_of s.table

-- the passes of the same participant afterwards: what they have seen, and its own calls, begin with those before
pub record Grew (s t : HashSeat) : Type 0 where
  pub number : number_of t.table ≡ number_of s.table
  pub turns : (number : ℕ) → StartsWith (mine_of t.table number) (mine_of s.table number)
  pub seen : (number : ℕ) → StartsWith (seen_of t.table number) (seen_of s.table number)
  pub pages : StartsWith (pages_mine t.area) (pages_mine s.area)
  pub pages_seen : StartsWith (pages_shown t.area) (pages_shown s.area)
  pub pools : (class : ℕ) → IsClass class → StartsWith (pool_mine t.area class) (pool_mine s.area class)
  pub pools_seen : (class : ℕ) → IsClass class → StartsWith (pool_seen t.area class) (pool_seen s.area class)

-- the participant has made no turn at the table, and has asked the area for nothing and seen nothing of it
pub record IsUnusedBy (number : ℕ) (s : HashSeat) : Type 0 where
  pub number_is : number_of s.table ≡ number
  pub turns : (number : ℕ) → mine_of s.table number ≡ []
  pub area : IsFresh s.area

-- a participant has passes exactly if there is a table, and it has not used them
abbrev pub IsHashSeat : TableId → ℕ → Option HashPart → Option HashSeat → Type 0
IsHashSeat region number None None = Unit {0}
IsHashSeat region number None (Some s) = ⊥
IsHashSeat region number (Some p) None = ⊥
IsHashSeat region number (Some p) (Some s) = IsPart region p × IsSeat p s × IsUnusedBy number s

-- the same passes, which may have been used
abbrev pub StaysSeated : Option HashPart → Option HashSeat → Option HashSeat → Type 0
StaysSeated None None None = Unit {0}
StaysSeated (Some p) (Some s) (Some t) = IsSeat p t × Grew s t
StaysSeated None None (Some t) = ⊥
StaysSeated None (Some s) t = ⊥
StaysSeated (Some p) None t = ⊥
StaysSeated (Some p) (Some s) None = ⊥

-- what a participant did with the table, if there is one
abbrev pub use_in : Option HashSeat → Option Use
use_in None = None
use_in (Some s) = Some (use_of s)

-- the passes of all participants, in order of their numbers, with which none has done anything yet
pub record AreUnusedSeats (p : HashPart) (seats : List HashSeat) : Type 0 where
  pub count : length seats ≡ callers_of p
  pub each : (k : ℕ) (s : HashSeat) → get_elem? seats k ≡ some s → IsSeat p s
  pub unused : (k : ℕ) (s : HashSeat) → get_elem? seats k ≡ some s → IsUnusedBy k s

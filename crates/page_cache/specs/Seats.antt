-- The cache, and the seats by which it is called.
use Rattle.std.specs.Prelude.{◌≡◌, ℕ, ◌<◌, List, length}
use mathlib.Core.Option.{some}
use lib.ListN.{get_elem?}
use Rattle.lock_book.specs.Shown.{number_of}
use Rattle.dsa_area.specs.Shown.{Belongs as AreaBelongs, IsArea}
use Rattle.chunk_table.specs.Tables.{Belongs, IsSpare, IsTable, callers_of, key_words_of, sight_of}
use Rattle.page_cache.specs.Backs.{IsSettled}
use Rattle.page_cache.specs.declared.cache.Cache.{Cache}
use Rattle.page_cache.specs.declared.cache.Seat.{Seat}

-- the area and the table are in the region, and a name has two words
pub record IsCache (c : Cache) : Type 0 where
  pub area : IsArea c.region c.area
  pub table : IsTable c.region c.table
  pub names : key_words_of c.table ≡ 2

-- The seat's passes are of this cache, and so is its spare item, if it has one. It began with a share of the tickets, has
-- paid one for each entry that it made, and got one for each that it took out; and each chunk that it was handed went back
pub record IsSeat (c : Cache) (s : Seat) : Type 0 where
  pub own : Belongs c.table s.pass
  pub area_own : AreaBelongs c.area s.apass
  pub settled : IsSettled c.area (number_of s.pass) c.share (sight_of s.pass s.apass) s.tickets
  pub hand : s.hand < 128
  pub spare : IsSpare c.region c.table s.spare

-- the seat before and after a call of the cache, of the same caller
abbrev pub StaysSeat : Cache → Seat → Seat → Type 0
StaysSeat c before after = IsSeat c after × (number_of after.pass ≡ number_of before.pass)

-- the seats of all callers, in order of their numbers
pub record AreSeats (c : Cache) (seats : List Seat) : Type 0 where
  pub count : length seats ≡ callers_of c.table
  pub each : (k : ℕ) (s : Seat) → get_elem? seats k ≡ some s → IsSeat c s
  pub numbers : (k : ℕ) (s : Seat) → get_elem? seats k ≡ some s → number_of s.pass ≡ k

-- What is true of one caller's share of a table.
use Rattle.std.specs.Prelude.{◌≡◌, ℕ, ◌+◌, ◌*◌, [], length}
use Rattle.std.specs.List.{All}
use mathlib.Core.Option.{some}
use lib.ListN.{get_elem?}
use Rattle.std_alloc.specs.Arc.{arc_value}
use Rattle.lock_book.specs.Shown.{mine_of, number_of, seen_of}
use Rattle.dshash_parts.specs.Tables.{Belongs, IsTable, item_of, key_words_of}
use Rattle.c_records.specs.Items.{IsItem}
use Rattle.c_table.specs.Reserves.{IsReserve, chunk_words}
use Rattle.c_records.specs.declared.shared.Share.{Share}
use Rattle.c_records.specs.declared.shared.Shared.{Shared}

-- a table of records under keys of one word, in its region
pub record IsShared (x : Shared) : Type 0 where
  pub table : IsTable x.region x.table
  pub keys : key_words_of x.table ≡ 1
  pub items : item_of x.table ≡ 160

-- The pass is one of the table; those of callers that have no share yet are too, have the numbers from 0 on, and have
-- seen and done nothing; and all chunks are of the table's region
pub record IsShare (s : Share) : Type 0 where
  pub shared : IsShared (arc_value s.shared)
  pub own : Belongs (arc_value s.shared).table s.pass
  pub others : (k : ℕ) (p : _) → get_elem? s.others.items k ≡ some p → Belongs (arc_value s.shared).table p × (number_of p ≡ k) × ((i : ℕ) → (seen_of p i ≡ []) × (mine_of p i ≡ []))
  pub reserve : IsReserve (arc_value s.shared).region s.reserve
  pub items : All (IsItem (arc_value s.shared).region) s.items.items
  pub slices : All (λ c. c.part.region ≡ (arc_value s.shared).region) s.slices.items

-- a caller's own words: those that are not cut yet, 20 in each item that holds no key, and those of the slices that
-- no partition has
abbrev pub words_of : Share → ℕ
words_of s = s.reserve.left + 20 * length s.items.items + chunk_words s.slices.items

-- That the left rows were shared out among the participants, and went into the shared table.
use Rattle.std.specs.Prelude.{◌≡◌, ◌<◌, ◌≤◌, ◌+◌, ◌*◌, ℕ, List, [], length}
use mathlib.Core.Option.{some}
use lib.ListN.{get_elem?}
use Rattle.dsa_area.specs.Shown.{AreAll, pages_mine}
use Rattle.dsa_area.specs.declared.area.Area.{Area}
use Rattle.dsa_area.specs.declared.area.AreaPass.{AreaPass}
use Rattle.dshash_parts.specs.Ending.{whole_of}
use Rattle.dshash_parts.specs.Legal.{PartitionLegal}
use Rattle.dshash_parts.specs.States.{fresh}
use Rattle.lock_book.specs.History.{IsLegal, calls_by}
use Rattle.scan_claim.specs.Drawing.{flat, times}
use Rattle.scan_claim.specs.Shown.{lists_of}
use Rattle.scan_claim.specs.declared.claims.Drawn.{Drawn}
use Rattle.row_blocks.specs.Blocks.{Table, numbers_of_blocks}
use Rattle.hash_join.specs.Filled.{HasPut, RowEntry}
use Rattle.dshash_parts.specs.Done.{PageEntry}
use Rattle.join_pairs.specs.Chains.{last_step}
use Rattle.hash_join.specs.declared.Joined.{Joined}
use Rattle.join_pairs.specs.declared.chains.Link.{Link}

-- some rows were put into the table: HasPut, whichever of them found no room
pub record WerePut (records : Table) (column : ℕ) (rows : List ℕ) (calls : ℕ → List RowEntry) (at_pages : List PageEntry) : Type 0 where
  pub links : List Link
  pub spilled : List ℕ
  pub put : HasPut records column rows calls at_pages links spilled

-- What came home, over the history of each partition of a table of left rows: there are as many participants as workers
-- and the caller, with the passes of one area; each block with a row was drawn once; the entries of each participant are
-- its calls for the rows of its blocks; and no other has an entry
pub record IsShared (records : Table) (column callers : ℕ) (drawn : Drawn) (history : ℕ → List RowEntry) (areas : List AreaPass) : Type 0 where
  pub count : length areas ≡ callers
  pub passes : (area : Area) × AreAll area areas
  pub lists : length (lists_of drawn) ≡ callers
  pub once : (block : ℕ) → 256 * block + 1 < length records → times block (flat (lists_of drawn)) ≡ 1
  pub each : (n : ℕ) (draws : List ℕ) (area : AreaPass) → get_elem? (lists_of drawn) n ≡ some draws → get_elem? areas n ≡ some area
      → WerePut records column (numbers_of_blocks records draws) (λ number. calls_by n (history number)) (pages_mine area)
  pub no_others : (n number : ℕ) → number < 128 → callers ≤ n → calls_by n (history number) ≡ []
  pub lawful : (number : ℕ) → number < 128 → IsLegal (λ _. PartitionLegal last_step number) fresh (history number)

-- what a join used, for this many workers
abbrev pub IsUsed : Table → ℕ → ℕ → Joined → Type 0
IsUsed records column workers j = IsShared records column (workers + 1) j.drawn (whole_of j.table) j.areas.items

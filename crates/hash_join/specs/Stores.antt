-- The shared table of the left rows with its area, and a participant's passes.
use Rattle.std.specs.Prelude.{◌≡◌, ◌≤◌, ℕ, IsTrue, List, []}
use Rattle.dsa_area.specs.Shown.{Belongs as AreaBelongs, IsArea, number_of as area_number, pages_mine}
use Rattle.dshash_parts.specs.Tables.{Belongs as TableBelongs, IsHome, IsTable, key_words_of}
use Rattle.lock_book.specs.Shown.{mine_of, number_of}
use Rattle.scan_claim.specs.Drawing.{is_spent}
use Rattle.scan_claim.specs.Shown.{blocks_of, draws_of, number_of as seat_number}
use Rattle.scan_claim.specs.declared.claims.Claims.{Claims}
use Rattle.row_blocks.specs.Blocks.{Table, numbers_of_blocks}
use Rattle.hash_join.specs.Filled.{HasPut}
use Rattle.hash_join.specs.declared.store.Store.{Store}
use Rattle.hash_join.specs.declared.filling.Filler.{Filler}

-- a table of keys of this many words as the store says, made with an area of the same region
pub record IsStore (s : Store) : Type 0 where
  pub area : IsArea s.region s.area
  pub table : IsTable s.region s.table
  pub home : IsHome s.area s.table
  pub keys : key_words_of s.table ≡ s.key_words
  pub short : s.key_words ≤ 32

-- the participant's passes are of this table and its area
pub record Holds (s : Store) (f : Filler) : Type 0 where
  pub area : AreaBelongs s.area f.area
  pub table : TableBelongs s.table f.table

-- the participant has the same numbers as before
pub record IsSame (f g : Filler) : Type 0 where
  pub area : area_number g.area ≡ area_number f.area
  pub table : number_of g.table ≡ number_of f.table
  pub claim : seat_number g.claim ≡ seat_number f.claim

-- the participant has put in these rows, and no others
abbrev pub DidPut : Table → ℕ → List ℕ → Filler → Type 0
DidPut records column rows f = HasPut records column rows (mine_of f.table) (pages_mine f.area) f.links.items f.spilled.items

-- it has put in the rows of all blocks that it drew
abbrev pub DidDraw : Table → ℕ → Filler → Type 0
DidDraw records column f = DidPut records column (numbers_of_blocks records (draws_of f.claim)) f

-- it drew to the end
pub record HasFilled (records : Table) (column : ℕ) (c : Claims) (f : Filler) : Type 0 where
  pub put : DidDraw records column f
  pub spent : IsTrue (is_spent (blocks_of c) (draws_of f.claim))

-- it has done nothing yet
pub record IsNew (f : Filler) : Type 0 where
  pub calls : (number : ℕ) → mine_of f.table number ≡ []
  pub draws : draws_of f.claim ≡ []
  pub links : f.links.items ≡ []
  pub spilled : f.spilled.items ≡ []

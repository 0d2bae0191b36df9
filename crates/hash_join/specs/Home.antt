-- The participants of the first round, from their beginning to what they brought home.
use Rattle.std.specs.Prelude.{◌≡◌, ◌<◌, ℕ, List, All, false, length, map, slice_index_or}
use Rattle.dsa_area.specs.Shown as area
use Rattle.dshash_parts.specs.Tables as table
use Rattle.scan_claim.specs.Shown as claim
use Rattle.scan_claim.specs.declared.claims.Claims.{Claims}
use Rattle.row_blocks.specs.Blocks.{Table}
use Rattle.hash_join.specs.Stores.{HasFilled, Holds, IsNew, IsSame}
use Rattle.hash_join.specs.declared.filling.Filler.{Filler}
use Rattle.hash_join.specs.declared.gathering.Home.{Home}
use Rattle.hash_join.specs.declared.store.Store.{Store}

-- the participants with their tokens: those of all callers, in order of their numbers
pub record AreFillers (s : Store) (c : Claims) (fs : List Filler) : Type 0 where
  pub areas : area.AreAll s.area (map (λ (f : Filler). f.area) fs)
  pub tables : table.AreAll s.table (map (λ (f : Filler). f.table) fs)
  pub claims : claim.AreSeats c (map (λ (f : Filler). f.claim) fs)

-- each participant has passes and a seat, and has done nothing yet
abbrev pub AreNew : Store → Claims → List Filler → Type 0
AreNew s c fs = All (λ (f : Filler). Holds s f × claim.Belongs c f.claim × IsNew f) fs

-- what a participant became: the same, and it drew to the end, unless it lacked memory
pub record Became (records : Table) (column : ℕ) (s : Store) (c : Claims) (f g : Filler) : Type 0 where
  pub own : Holds s g
  pub seat : claim.Belongs c g.claim
  pub same : IsSame f g
  pub filled : g.lacks_memory ≡ false → HasFilled records column c g

-- what the participants became, in order
pub record AreFilled (records : Table) (column : ℕ) (s : Store) (c : Claims) (fs gs : List Filler) : Type 0 where
  pub count : length gs ≡ length fs
  pub each : (k : ℕ) (d : Filler) → k < length fs → Became records column s c (slice_index_or fs k d) (slice_index_or gs k d)

-- What came home, with the participants that brought it: each drew to the end
pub record IsHome (records : Table) (column : ℕ) (s : Store) (c : Claims) (fs : List Filler) (h : Home) : Type 0 where
  pub all : AreFillers s c fs
  pub filled : All (HasFilled records column c) fs
  pub areas : h.areas.items ≡ map (λ (f : Filler). f.area) fs
  pub tables : h.tables.items ≡ map (λ (f : Filler). f.table) fs
  pub claims : h.claims.items ≡ map (λ (f : Filler). f.claim) fs
  pub links : h.links.items ≡ map (λ (f : Filler). f.links) fs
  pub spilled : h.spilled.items ≡ map (λ (f : Filler). f.spilled) fs

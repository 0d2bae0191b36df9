-- A call of the table on its way: what its turns and requests so far did.
use Rattle.std.specs.Prelude.{◌≡◌, ℕ, ◌+◌, ◌*◌, ◌≤◌, ◌⊎◌, Bool, true, List, Option}
use Rattle.dsa_area.specs.Sizes.{chunk_size}
use Rattle.dsa_area.specs.declared.area.Area.{Area}
use Rattle.dshash_core.specs.Chains.{Among}
use Rattle.dshash_parts.specs.Tables.{size_at}
use Rattle.dshash_parts.specs.declared.histories.PartitionCalls.TheVariants.{Moves}
use Rattle.dshash_parts.specs.declared.histories.PartitionReplies.TheVariants.{Moved}
use Rattle.dshash_parts.specs.Traces.{Event, Turn, Asked, Got, Gave, Sight, Trace, asked, fulls, NoneMade}
use Rattle.dshash_parts.specs.Promises.{AllGrew, Balances, HadToGrow, IsLeftOver, LackedItem, one_if, slice_size}

module _ {S C R : Type 0} (number item : ℕ) (key : List ℕ) (call : C) where
  -- each move, each grant and each gift among the events fs has its cause among the events es
  pub record AreCaused (es fs : List (Event S C R)) : Type 0 where
    pub moves : (k to left : ℕ) → Among (Turn k (Moves to) (Moved left)) fs → (size : ℕ) × HadToGrow number item key call es size × (to ≡ size + 1)
    pub grants : (bytes : ℕ) → Among (Asked (Got bytes)) fs → ((bytes ≡ item) × LackedItem number item key call es) ⊎ ((size : ℕ) × HadToGrow number item key call es size × (bytes ≡ slice_size (size + 1)))
    pub gifts : (bytes : ℕ) (accepted : Bool) → Among (Asked (Gave bytes accepted)) fs → (bytes ≡ chunk_size item) ⊎ IsLeftOver es bytes

  -- the call was not made yet, and of what the caller held first or was granted only the spare item is left, if there
  -- is one
  pub record IsUnderway (held spare : Bool) (es : List (Event S C R)) : Type 0 where
    pub none : NoneMade es
    pub balance : Balances (chunk_size item) held spare es
    pub caused : AreCaused es es
    pub asks : asked es ≤ one_if spare + 128 * fulls es
    pub uses : held ≡ true → (spare ≡ true) × (LackedItem number item key call es → ⊥)

  -- These events led there. Each time that the partition had to grow it grew by a size at least
  pub record Underway (step : Option S → C → Option S × R) (a : Area) (n : ℕ) (held spare : Bool) (v w : Sight S C R) : Type 0 where
    pub events : List (Event S C R)
    pub is : IsUnderway held spare events
    pub trace : Trace step a n v w events
    pub rounds : fulls events + 7 ≤ size_at w.seen number
    pub grew : AllGrew number item key call events w.seen

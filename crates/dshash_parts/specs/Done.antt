-- What a caller did with a table, read off entries of histories: the calls that were made, those that were not, and the
-- requests for pages that were refused.
use Rattle.std.specs.Prelude.{◌≡◌, ◌≤◌, ◌++◌, ℕ, Bool, true, false, List, [], ◌∷◌, All, count_by, length}
use Rattle.std.specs.List.{flat_map}
use Rattle.std.specs.List.Sorted.{IsPermutation}
use Rattle.free_pages.specs.Legal.{PagesCall, PagesReply, PagesState}
use Rattle.free_pages.specs.Legal as pages
use Rattle.lock_book.specs.declared.view.Entry.{Entry}
use Rattle.dshash_parts.specs.States.{PartitionState}
use Rattle.dshash_parts.specs.declared.histories.PartitionCalls.{PartitionCalls}
use Rattle.dshash_parts.specs.declared.histories.PartitionCalls.TheVariants.{Call}
use Rattle.dshash_parts.specs.declared.histories.PartitionReplies.{PartitionReplies}
use Rattle.dshash_parts.specs.declared.histories.PartitionReplies.TheVariants.{Made, LacksItem, HasToGrow, Crowded}

-- ---- at a partition

module _ {S C R X : Type 0} (of : List ℕ → C → R → X) where
  -- the call that an entry is, if it was made: what there is of its key, of what was called and of what was replied
  abbrev pub done_of : PartitionCalls C → PartitionReplies S R → List X
  done_of (Call key call spare) (Made reply unused freed) = of key call reply ∷ []
  done_of other reply = []

  -- the calls that were made, in order
  abbrev pub done_in : List (Entry (PartitionState S) (PartitionCalls C) (PartitionReplies S R)) → List X
  done_in entries = flat_map (λ (e : Entry (PartitionState S) (PartitionCalls C) (PartitionReplies S R)). done_of e.call e.reply) entries

module _ {S C R : Type 0} where
  -- this call of this key was not made: it lacked an item, or the partition had to grow first, or its chain was too long
  abbrev pub IsMissing : List ℕ → C → PartitionCalls C → PartitionReplies S R → Type 0
  IsMissing key call (Call k c spare) LacksItem = (k ≡ key) × (c ≡ call)
  IsMissing key call (Call k c spare) (HasToGrow size back) = (k ≡ key) × (c ≡ call)
  IsMissing key call (Call k c spare) (Crowded seed longest back) = (k ≡ key) × (c ≡ call)
  IsMissing key call other reply = ⊥

  -- this call of this key was not made, for its chain had this many items already
  abbrev pub IsTurnedAway : ℕ → List ℕ → C → PartitionCalls C → PartitionReplies S R → Type 0
  IsTurnedAway longest key call (Call k c spare) (Crowded seed most back) = (k ≡ key) × (c ≡ call) × (most ≡ longest)
  IsTurnedAway longest key call other reply = ⊥

-- ---- at the pages

-- an entry in the history of the pages of the table's area
abbrev pub PageEntry : Type 0
PageEntry = Entry PagesState PagesCall PagesReply

-- a request for pages was refused
abbrev pub is_lack : PagesReply → Bool
is_lack (pages.Lacks wanted largest) = true
is_lack reply = false

-- how many requests for pages were refused
abbrev pub lacks : List PageEntry → ℕ
lacks entries = count_by (λ (e : PageEntry). is_lack e.reply) entries

-- ---- calls with a bound on their keys' chains

-- Why the calls of `left`, each with a bound, were not made: those of `lacked` are no more than the requests for pages
-- that were refused, and each of `crowded` was turned away for its chain
pub record HaveCauses {X : Type 0} (turned_away : X → Type 0) (left : List X) (refused : ℕ) : Type 0 where
  pub lacked : List X
  pub crowded : List X
  pub both : IsPermutation left (lacked ++ crowded)
  pub few : length lacked ≤ refused
  pub long : All turned_away crowded

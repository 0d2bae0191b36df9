-- What a listing of a whole table is: of each partition one listing, at its own moment.
use Rattle.std.specs.Prelude.{◌≡◌, ℕ, ◌⊎◌, List, [], ◌∷◌, ◌++◌, length, Option, Some}
use mathlib.Core.Option.{some}
use lib.ListN.{get_elem?}
use Rattle.atomic_table.specs.Seated.{TableId}
use Rattle.lock_book.specs.declared.kept.Kept.{Ghosts}
use Rattle.lock_book.specs.declared.shelf.Pass.{Pass}
use Rattle.lock_book.specs.Shown.{number_of, seen_of, mine_of}
use Rattle.dshash_core.specs.Outcome.{ListsAll}
use Rattle.dshash_parts.specs.States.{PartitionState}
use Rattle.dshash_parts.specs.Tables.{Did, map_at}
use Rattle.dshash_parts.specs.declared.histories.PartitionName.{PartitionName}
use Rattle.dshash_parts.specs.declared.histories.PartitionCalls.{PartitionCalls}
use Rattle.dshash_parts.specs.declared.histories.PartitionCalls.TheVariants.{Lists}
use Rattle.dshash_parts.specs.declared.histories.PartitionReplies.{PartitionReplies}
use Rattle.dshash_parts.specs.declared.histories.PartitionReplies.TheVariants.{Listed}
use Rattle.dshash_parts.specs.declared.asks.TableAsk.{TableAsk}
use Rattle.dshash_parts.specs.declared.asks.TableAnswer.{TableAnswer}
use Rattle.dshash_parts.specs.declared.numbered.Numbered.{Numbered}

-- lists one after another
abbrev pub joined : {A : Type 0} → List (List A) → List A
joined [] = []
joined (xs ∷ rest) = xs ++ joined rest

-- the pass p became q; g are the meanings of the locked partitions' members
module _ {O S C R : Type 0} {g : Ghosts (Numbered O S C R) TableId (TableAsk O S C R) (TableAnswer O S C R) PartitionName (PartitionState S) (PartitionCalls C) (PartitionReplies S R)} (step : Option S → C → Option S × R)
    (p q : Pass (Numbered O S C R) TableId (TableAsk O S C R) (TableAnswer O S C R) PartitionName (PartitionState S) (PartitionCalls C) (PartitionReplies S R) g) where
  -- at a partition just these events
  abbrev pub DidAt : ℕ → List (PartitionCalls C × PartitionReplies S R) → Type 0
  DidAt k es = Did step (number_of p) (seen_of p) (mine_of p) (seen_of q) (mine_of q) k es

  -- at a partition one listing, or none, and nothing else
  abbrev pub ListsOnce : ℕ → Type 0
  ListsOnce k = DidAt k [] ⊎ ((told : Option (List (List ℕ × S))) × DidAt k ((Lists, Listed told) ∷ []))

  -- These pairs are those of all partitions, one after another: of each its map after one listing, and nothing else was
  -- done there
  pub record ListsTable (pairs : List (List ℕ × S)) : Type 0 where
    pub parts : List (List (List ℕ × S))
    pub count : length parts ≡ 128
    pub is : pairs ≡ joined parts
    pub listings : (k : ℕ) (entries : List (List ℕ × S)) → get_elem? parts k ≡ some entries → DidAt k ((Lists, Listed (Some entries)) ∷ []) × ListsAll (map_at (seen_of q) k) entries

-- What a count of a whole table is: of each partition the number of its keys, at its own moment.
use Rattle.std.specs.Prelude.{◌≡◌, ℕ, List, [], ◌∷◌, length, Option}
use Rattle.std.specs.FinMap as fin
use Rattle.std.specs.List.{sum_by}
use mathlib.Core.Option.{some}
use lib.ListN.{get_elem?}
use Rattle.atomic_table.specs.Seated.{TableId}
use Rattle.lock_book.specs.declared.kept.Kept.{Ghosts}
use Rattle.lock_book.specs.declared.shelf.Pass.{Pass}
use Rattle.lock_book.specs.Shown.{seen_of}
use Rattle.dshash_parts.specs.States.{PartitionState}
use Rattle.dshash_parts.specs.Tables.{map_at}
use Rattle.dshash_parts.specs.declared.histories.PartitionName.{PartitionName}
use Rattle.dshash_parts.specs.declared.histories.PartitionCalls.{PartitionCalls}
use Rattle.dshash_parts.specs.declared.histories.PartitionCalls.TheVariants.{Looks}
use Rattle.dshash_parts.specs.declared.histories.PartitionReplies.{PartitionReplies}
use Rattle.dshash_parts.specs.declared.histories.PartitionReplies.TheVariants.{HasSize}
use Rattle.dshash_parts.specs.declared.asks.TableAsk.{TableAsk}
use Rattle.dshash_parts.specs.declared.asks.TableAnswer.{TableAnswer}
use Rattle.dshash_parts.specs.declared.numbered.Numbered.{Numbered}
use Rattle.dshash_scan.specs.Listings.{DidAt}

-- the pass p became q; g are the meanings of the locked partitions' members
module _ {O S C R : Type 0} {g : Ghosts (Numbered O S C R) TableId (TableAsk O S C R) (TableAnswer O S C R) PartitionName (PartitionState S) (PartitionCalls C) (PartitionReplies S R)} (step : Option S → C → Option S × R)
    (p q : Pass (Numbered O S C R) TableId (TableAsk O S C R) (TableAnswer O S C R) PartitionName (PartitionState S) (PartitionCalls C) (PartitionReplies S R) g) where
  -- This many keys are those of all partitions: of each the number of them in its map after one look, and nothing else
  -- was done there
  pub record CountsTable (total : ℕ) : Type 0 where
    pub counts : List ℕ
    pub count : length counts ≡ 128
    pub is : total ≡ sum_by (λ keys. keys) counts
    pub looks : (k keys : ℕ) → get_elem? counts k ≡ some keys → ((size : ℕ) × DidAt step p q k ((Looks, HasSize size keys) ∷ [])) × (keys ≡ fin.len (map_at (seen_of q) k))

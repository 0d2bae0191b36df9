-- Several calls in one turn of a partition: what a turn shows, what a call in it adds, and what its end leaves.
use Rattle.std.specs.Prelude.{◌≡◌, ℕ, List, [], ◌∷◌, ◌++◌, Option}
use Rattle.std.specs.FinMap as fin
use Rattle.atomic_table.specs.Seated.{TableId}
use Rattle.lock_book.specs.declared.kept.Kept.{Ghosts}
use Rattle.lock_book.specs.declared.several.Turn.{Turn}
use Rattle.lock_book.specs.declared.shelf.Pass.{Pass}
use Rattle.lock_book.specs.declared.view.Entry.{Entry}
use Rattle.lock_book.specs.History.{entry, last_of}
use Rattle.lock_book.specs.Shown as shelf
use Rattle.lock_book.specs.Shown.{begun_in, calls_in, mine_of, number_in, number_of, opens_of, place_in, seen_of}
use Rattle.lock_book.specs.Told.{AddsAll}
use Rattle.dshash_core.specs.declared.outcome.CoreOut.{CoreOut}
use Rattle.dshash_core.specs.declared.outcome.CoreOut.TheVariants.{Done, NeedItem, TooFull}
use Rattle.dshash_parts.specs.States.{PartitionState, fresh}
use Rattle.dshash_parts.specs.Legal.{PartitionLegal}
use Rattle.dshash_parts.specs.declared.histories.PartitionName.{PartitionName}
use Rattle.dshash_parts.specs.declared.histories.PartitionCalls.{PartitionCalls}
use Rattle.dshash_parts.specs.declared.histories.PartitionReplies.{PartitionReplies}
use Rattle.dshash_parts.specs.declared.asks.TableAsk.{TableAsk}
use Rattle.dshash_parts.specs.declared.asks.TableAnswer.{TableAnswer}
use Rattle.dshash_parts.specs.declared.numbered.Numbered.{Numbered}
use Rattle.dshash_parts.specs.declared.table.Dshash.{Dshash}

-- g are the meanings of the locked partitions' members
module _ {O S C R : Type 0} {g : Ghosts (Numbered O S C R) TableId (TableAsk O S C R) (TableAnswer O S C R) PartitionName (PartitionState S) (PartitionCalls C) (PartitionReplies S R)} where
  -- a turn at a partition of this table, of the pass that was p when it began
  abbrev pub IsTurn : Dshash O S C R → Pass (Numbered O S C R) TableId (TableAsk O S C R) (TableAnswer O S C R) PartitionName (PartitionState S) (PartitionCalls C) (PartitionReplies S R) g → Turn (Numbered O S C R) TableId (TableAsk O S C R) (TableAnswer O S C R) PartitionName (PartitionState S) (PartitionCalls C) (PartitionReplies S R) g → Type 0
  IsTurn t p turn = shelf.IsTurn t.shelf p turn

  -- the state of the partition after the calls of a turn so far
  abbrev pub state_in : Turn (Numbered O S C R) TableId (TableAsk O S C R) (TableAnswer O S C R) PartitionName (PartitionState S) (PartitionCalls C) (PartitionReplies S R) g → PartitionState S
  state_in turn = last_of fresh (begun_in turn ++ calls_in turn)

  -- Of the turn t, which is u afterwards: the event is the next of the turn's, legal from the state after those before
  -- it
  pub record TurnedIn (step : Option S → C → Option S × R) (t u : Turn (Numbered O S C R) TableId (TableAsk O S C R) (TableAnswer O S C R) PartitionName (PartitionState S) (PartitionCalls C) (PartitionReplies S R) g) (call : PartitionCalls C) (reply : PartitionReplies S R) : Type 0 where
    pub after : PartitionState S
    pub calls : calls_in u ≡ calls_in t ++ entry (number_in t) call reply after ∷ []
    pub legal : PartitionLegal step (place_in t) (state_in t) call reply after
    pub begun : begun_in u ≡ begun_in t
    pub place : place_in u ≡ place_in t
    pub number : number_in u ≡ number_in t

  -- the state under a key, after the calls of a turn so far
  abbrev pub under_in : Turn (Numbered O S C R) TableId (TableAsk O S C R) (TableAnswer O S C R) PartitionName (PartitionState S) (PartitionCalls C) (PartitionReplies S R) g → List ℕ → Option S
  under_in turn key = fin.get (state_in turn).cells key

  -- Of the turn t, which is u after a call of the key: a call that was made replied as its step does from the state that
  -- was under the key, and what the step leaves is there now; any other has changed nothing
  abbrev pub ToldIn : (Option S → C → Option S × R) → Turn (Numbered O S C R) TableId (TableAsk O S C R) (TableAnswer O S C R) PartitionName (PartitionState S) (PartitionCalls C) (PartitionReplies S R) g → Turn (Numbered O S C R) TableId (TableAsk O S C R) (TableAnswer O S C R) PartitionName (PartitionState S) (PartitionCalls C) (PartitionReplies S R) g → List ℕ → C → CoreOut O S C R → Type 0
  ToldIn step t u key call (Done reply unused freed) = (reply ≡ (step (under_in t key) call).1) × (under_in u key ≡ (step (under_in t key) call).0)
  ToldIn step t u key call NeedItem = (state_in u).cells ≡ (state_in t).cells
  ToldIn step t u key call (TooFull size spare) = (state_in u).cells ≡ (state_in t).cells

  -- Of the pass p, which is q after a turn with these events at a partition: they are the last ones that q has seen
  -- there, with no other caller's between them, and legal, and none is at another partition
  abbrev pub TurnedAll : (Option S → C → Option S × R) → Dshash O S C R → Pass (Numbered O S C R) TableId (TableAsk O S C R) (TableAnswer O S C R) PartitionName (PartitionState S) (PartitionCalls C) (PartitionReplies S R) g → Pass (Numbered O S C R) TableId (TableAsk O S C R) (TableAnswer O S C R) PartitionName (PartitionState S) (PartitionCalls C) (PartitionReplies S R) g → ℕ → List (Entry (PartitionState S) (PartitionCalls C) (PartitionReplies S R)) → Type 0
  TurnedAll step t p q number es = AddsAll (λ name _. PartitionLegal step name.number) (opens_of t.shelf) (number_of p) (seen_of p) (mine_of p) (seen_of q) (mine_of q) number es

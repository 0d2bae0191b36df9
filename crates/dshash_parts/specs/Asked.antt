-- A locked partition: which call an ask and its answer represent, which reply an answer represents, and the chunks that
-- go in and come out.
use Rattle.std.specs.Prelude.{◌≡◌, ℕ, ◌/◌, ◌≤◌, true, false, List, length, Option, Some, None, Result, Ok, Err, is_some, IfOk, IfSome}
use Rattle.dshash_core.specs.Key.{hash_of, seeded_hash}
use Rattle.dshash_core.specs.Cells.{PartitionView, buckets_of, partition_of}
use Rattle.dshash_core.specs.Outcome.{AlwaysRemoves, HandsOut}
use Rattle.dshash_core.specs.Listing.{HaveWords, pairs_of}
use Rattle.dshash_core.specs.declared.outcome.CoreOut.{CoreOut}
use Rattle.dshash_core.specs.declared.outcome.CoreOut.TheVariants.{Done, NeedItem, TooFull}
use Rattle.dshash_parts.specs.States.{PartitionState}
use Rattle.dshash_parts.specs.declared.asks.TableAsk.{TableAsk}
use Rattle.dshash_parts.specs.declared.asks.TableAsk.TheVariants.{Make, MakeWithin, Look, Grow, List as ListAll, Take}
use Rattle.dshash_parts.specs.declared.asks.TableAnswer.{TableAnswer}
use Rattle.dshash_parts.specs.declared.asks.TableAnswer.TheVariants.{Came, Long, Size, LeftOver, Entries, Took}
use Rattle.dshash_parts.specs.declared.histories.PartitionName.{PartitionName}
use Rattle.dshash_parts.specs.declared.histories.PartitionCalls.{PartitionCalls}
use Rattle.dshash_parts.specs.declared.histories.PartitionCalls.TheVariants.{Call, Looks, Moves, Lists}
use Rattle.dshash_parts.specs.declared.histories.PartitionReplies.{PartitionReplies}
use Rattle.dshash_parts.specs.declared.histories.PartitionReplies.TheVariants.{Made, LacksItem, HasToGrow, Crowded, HasSize, Moved, Listed}

-- the name of the partition of this number
abbrev pub name_of : {S : Type 0} → ℕ → PartitionView S → PartitionName
name_of number p = record { region = p.region; number = number; seed = p.seed; key_words = p.key_words; item_bytes = p.item_bytes }

-- its state
abbrev pub state_of : {S : Type 0} → PartitionView S → PartitionState S
state_of p = record { size = p.size; cells = p.cells }

-- the reply of a listing: the entries, if the answer has them
abbrev pub listed_of : {S R V E : Type 0} → (V → List (List ℕ × S)) → Result V E → PartitionReplies S R
listed_of pairs (Ok entries) = Listed (Some (pairs entries))
listed_of pairs (Err e) = Listed None

-- S, C and R are the states, calls and replies of the object O
module _ {O S C R : Type 0} where
  -- the call of an ask. If a key is to come and none does, it was a look
  abbrev pub call_of : TableAsk O S C R → PartitionCalls C
  call_of (Make hash key call spare) = Call key call (is_some spare)
  call_of (MakeWithin longest hash key call spare) = Call key call (is_some spare)
  call_of Look = Looks
  call_of (Grow size slice) = Moves size
  call_of (ListAll alloc) = Lists
  call_of (Take call words) = Looks

  -- the call that the partition chose: of the key that came
  abbrev pub chosen_of : TableAsk O S C R → TableAnswer O S C R → Option (PartitionCalls C)
  chosen_of (Take call words) (Took taken) = Some (Call taken.key call false)
  chosen_of ask answer = None

  -- the reply of what became of a call
  abbrev pub outcome_of : CoreOut O S C R → PartitionReplies S R
  outcome_of (Done reply unused freed) = Made reply (is_some unused) (is_some freed)
  outcome_of NeedItem = LacksItem
  outcome_of (TooFull size spare) = HasToGrow size (is_some spare)

  -- the reply of an answer
  abbrev pub reply_of : TableAnswer O S C R → PartitionReplies S R
  reply_of (Came out) = outcome_of out
  reply_of (Long seed longest spare) = Crowded seed longest (is_some spare)
  reply_of (Size size keys) = HasSize size keys
  reply_of (LeftOver slice) = Moved slice.bytes
  reply_of (Entries entries) = listed_of (λ v. pairs_of v.items) entries
  reply_of (Took taken) = Made taken.reply false true

  -- a key has the table's length, comes with its hash with the table's seed and belongs to the partition of this number,
  -- and a spare item has the items' bytes; a move is to a size from 8 to 20, on a slice with a word for each bucket of
  -- that size; for a key that is to come there is a word for each of its words
  abbrev pub AskFits : PartitionName → TableAsk O S C R → Type 0
  AskFits n (Make hash key call spare) = (length key ≡ n.key_words) × (hash ≡ seeded_hash n.seed key) × (partition_of (hash_of key) ≡ n.number) × IfSome spare (λ c. (c.part.region ≡ n.region) × (c.bytes ≡ n.item_bytes))
  AskFits n (MakeWithin longest hash key call spare) = (length key ≡ n.key_words) × (hash ≡ seeded_hash n.seed key) × (partition_of (hash_of key) ≡ n.number) × IfSome spare (λ c. (c.part.region ≡ n.region) × (c.bytes ≡ n.item_bytes))
  AskFits n Look = Unit {0}
  AskFits n (Grow size slice) = (8 ≤ size) × (size ≤ 20) × (slice.part.region ≡ n.region) × (buckets_of size ≤ slice.bytes / 8)
  AskFits n (ListAll alloc) = Unit {0}
  AskFits n (Take call words) = length words.items ≡ n.key_words

  -- what is handed out is the spare itself or an item; a chain is too long for the bound that came, and the spare comes
  -- back; a slice that is left over is of this region; a size is from 7 to 20; keys that are listed have the table's
  -- length. If no key came there are none
  abbrev pub AnswerFits : PartitionName → TableAsk O S C R → TableAnswer O S C R → Type 0
  AnswerFits n (Make hash key call spare) (Came out) = HandsOut n.region n.item_bytes spare out
  AnswerFits n (MakeWithin longest hash key call spare) (Came out) = HandsOut n.region n.item_bytes spare out
  AnswerFits n (MakeWithin longest hash key call spare) (Long seed most back) = (seed ≡ n.seed) × (most ≡ longest) × (back ≡ spare)
  AnswerFits n Look (Size size keys) = (7 ≤ size) × (size ≤ 20)
  AnswerFits n (Grow size slice) (LeftOver left) = left.part.region ≡ n.region
  AnswerFits n (ListAll alloc) (Entries entries) = IfOk entries (λ v. HaveWords n.key_words (pairs_of v.items))
  AnswerFits n (Take call words) (Took taken) = (length taken.key ≡ n.key_words) × (taken.item.part.region ≡ n.region) × (taken.item.bytes ≡ n.item_bytes)
  AnswerFits n (Take call words) (Size size keys) = keys ≡ 0
  AnswerFits n ask answer = ⊥

-- step is what calls do, and may says which call of which key the caller of a number may make
module _ {O S C R : Type 0} (step : Option S → C → Option S × R) (may : ℕ → List ℕ → C → Type 0) where
  -- The caller may ask so at the partition of this number: a call of a key is one that it may make; a call of whichever
  -- key comes removes whatever is there, and is one that it may make of each key of the partition
  abbrev pub MayAsk : ℕ → ℕ → TableAsk O S C R → Type 0
  MayAsk number caller (Make hash key call spare) = may caller key call
  MayAsk number caller (MakeWithin longest hash key call spare) = may caller key call
  MayAsk number caller Look = Unit {0}
  MayAsk number caller (Grow size slice) = Unit {0}
  MayAsk number caller (ListAll alloc) = Unit {0}
  MayAsk number caller (Take call words) = AlwaysRemoves step call × ((key : List ℕ) → partition_of (hash_of key) ≡ number → may caller key call)

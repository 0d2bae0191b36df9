-- A locked partition of chunks: which call an ask and its answer represent, which reply an answer represents, and the
-- chunks that go in and come out.
use Rattle.std.specs.Prelude.{◌≡◌, ℕ, ◌/◌, ◌≤◌, true, false, List, length, Option, Some, None, Ok, Err, is_some, IfOk, IfSome}
use Rattle.std.specs.Option.{option_map}
use Rattle.std.specs.FinMap as fin
use Rattle.dshash_core.specs.Key.{hash_of, seeded_hash}
use Rattle.dshash_core.specs.Cells.{buckets_of, partition_of}
use Rattle.dshash_core.specs.Listing.{HaveWords, pairs_of}
use Rattle.dshash_chunks.specs.declared.held.Held.{Held}
use Rattle.dshash_chunks.specs.declared.held.ChunkCalls.{ChunkCalls}
use Rattle.dshash_chunks.specs.declared.held.ChunkCalls.TheVariants as chunk
use Rattle.dshash_chunks.specs.declared.held.ChunkReplies.{ChunkReplies}
use Rattle.dshash_chunks.specs.declared.held.ChunkReplies.TheVariants as said
use Rattle.dshash_chunks.specs.declared.outcome.PutOut.{PutOut}
use Rattle.dshash_chunks.specs.declared.outcome.PutOut.TheVariants.{Done, NeedItem, TooFull}
use Rattle.dshash_chunks.specs.declared.outcome.TookOut.{TookOut}
use Rattle.dshash_chunks.specs.Held.{held_in}
use Rattle.dshash_chunks.specs.Outcomes.{HandsBack, ListsNames}
use Rattle.dshash_parts.specs.declared.histories.PartitionName.{PartitionName}
use Rattle.dshash_parts.specs.declared.histories.PartitionCalls.{PartitionCalls}
use Rattle.dshash_parts.specs.declared.histories.PartitionCalls.TheVariants.{Call, Looks, Moves, Lists}
use Rattle.dshash_parts.specs.declared.histories.PartitionReplies.{PartitionReplies}
use Rattle.dshash_parts.specs.declared.histories.PartitionReplies.TheVariants.{Made, LacksItem, HasToGrow, HasSize, Moved, Listed as Told}
use Rattle.chunk_table.specs.declared.asks.ChunkAsk.{ChunkAsk}
use Rattle.chunk_table.specs.declared.asks.ChunkAsk.TheVariants.{Put, Take, With, Look, Grow, List as ListAll, Draw}
use Rattle.chunk_table.specs.declared.asks.ChunkAnswer.{ChunkAnswer}
use Rattle.chunk_table.specs.declared.asks.ChunkAnswer.TheVariants.{Placed, Out, Did, Size, LeftOver, Listed, Drawn}

-- the reply of what became of a chunk that was to be put
abbrev pub outcome_of : {R : Type 0} → PutOut → PartitionReplies Held (ChunkReplies R)
outcome_of (Done before unused) = Made (said.Was (option_map held_in before)) (is_some unused) false
outcome_of (NeedItem c) = LacksItem
outcome_of (TooFull size c spare) = HasToGrow size (is_some spare)

-- what was taken out is of this region, and an item has the items' bytes
abbrev pub IsTaken : PartitionName → TookOut → Type 0
IsTaken n took = IfSome took.chunk (λ c. c.part.region ≡ n.region) × IfSome took.item (λ c. (c.part.region ≡ n.region) × (c.bytes ≡ n.item_bytes))

-- C and R are the calls and replies of the object W
module _ {W C R : Type 0} where
  -- the call of an ask. If a key is to come and none does, it was a look
  abbrev pub call_of : ChunkAsk W C R → PartitionCalls (ChunkCalls C)
  call_of (Put hash key c spare) = Call key (chunk.Put (held_in c)) (is_some spare)
  call_of (Take hash key) = Call key chunk.Take false
  call_of (With hash key call) = Call key (chunk.With call) false
  call_of Look = Looks
  call_of (Grow size slice) = Moves size
  call_of (ListAll alloc) = Lists
  call_of (Draw words) = Looks

  -- the call that the partition chose: of the key that came
  abbrev pub chosen_of : ChunkAsk W C R → ChunkAnswer W C R → Option (PartitionCalls (ChunkCalls C))
  chosen_of (Draw words) (Drawn taken) = Some (Call taken.key chunk.Take false)
  chosen_of ask answer = None

  -- the reply of an answer
  abbrev pub reply_of : ChunkAnswer W C R → PartitionReplies Held (ChunkReplies R)
  reply_of (Placed out) = outcome_of out
  reply_of (Out took) = Made (said.Was (option_map held_in took.chunk)) false (is_some took.item)
  reply_of (Did reply) = Made (said.Did reply) false false
  reply_of (Size size keys) = HasSize size keys
  reply_of (LeftOver slice) = Moved slice.bytes
  reply_of (Listed (Ok entries) then) = Told (Some (fin.entries then.value.cells))
  reply_of (Listed (Err e) then) = Told None
  reply_of (Drawn taken) = Made (said.Was (Some (held_in taken.chunk))) false true

  -- a key has the table's length, comes with its hash with the table's seed and belongs to the partition of this number;
  -- a chunk is of this region, and a spare item has the items' bytes; a move is to a size from 8 to 20, on a slice with a
  -- word for each bucket of that size; for a key that is to come there is a word for each of its words
  abbrev pub AskFits : PartitionName → ChunkAsk W C R → Type 0
  AskFits n (Put hash key c spare) = (length key ≡ n.key_words) × (hash ≡ seeded_hash n.seed key) × (partition_of (hash_of key) ≡ n.number) × (c.part.region ≡ n.region) × IfSome spare (λ x. (x.part.region ≡ n.region) × (x.bytes ≡ n.item_bytes))
  AskFits n (Take hash key) = (length key ≡ n.key_words) × (hash ≡ seeded_hash n.seed key) × (partition_of (hash_of key) ≡ n.number)
  AskFits n (With hash key call) = (length key ≡ n.key_words) × (hash ≡ seeded_hash n.seed key) × (partition_of (hash_of key) ≡ n.number)
  AskFits n Look = Unit {0}
  AskFits n (Grow size slice) = (8 ≤ size) × (size ≤ 20) × (slice.part.region ≡ n.region) × (buckets_of size ≤ slice.bytes / 8)
  AskFits n (ListAll alloc) = Unit {0}
  AskFits n (Draw words) = length words.items ≡ n.key_words

  -- what is handed out is the chunk or the spare itself, or what was there; a slice that is left over is of this region;
  -- a size is from 7 to 20; a listing has the names of the map then. If no key came there are none
  abbrev pub AnswerFits : PartitionName → ChunkAsk W C R → ChunkAnswer W C R → Type 0
  AnswerFits n (Put hash key c spare) (Placed out) = HandsBack n.region c spare out
  AnswerFits n (Take hash key) (Out took) = IsTaken n took
  AnswerFits n (With hash key call) (Did reply) = Unit {0}
  AnswerFits n Look (Size size keys) = (7 ≤ size) × (size ≤ 20)
  AnswerFits n (Grow size slice) (LeftOver left) = left.part.region ≡ n.region
  AnswerFits n (ListAll alloc) (Listed entries then) = IfOk entries (λ v. ListsNames then.value.cells (pairs_of v.items) × HaveWords n.key_words (pairs_of v.items))
  AnswerFits n (Draw words) (Drawn taken) = (length taken.key ≡ n.key_words) × (taken.chunk.part.region ≡ n.region) × (taken.item.part.region ≡ n.region) × (taken.item.bytes ≡ n.item_bytes)
  AnswerFits n (Draw words) (Size size keys) = keys ≡ 0
  AnswerFits n ask answer = ⊥

  -- may says which call of which key the caller of a number may make: the caller may ask so at the partition of this
  -- number. Whoever takes the chunk of whichever key comes may take that of each key of the partition
  abbrev pub MayAsk : (ℕ → List ℕ → ChunkCalls C → Type 0) → ℕ → ℕ → ChunkAsk W C R → Type 0
  MayAsk may number caller (Put hash key c spare) = may caller key (chunk.Put (held_in c))
  MayAsk may number caller (Take hash key) = may caller key chunk.Take
  MayAsk may number caller (With hash key call) = may caller key (chunk.With call)
  MayAsk may number caller Look = Unit {0}
  MayAsk may number caller (Grow size slice) = Unit {0}
  MayAsk may number caller (ListAll alloc) = Unit {0}
  MayAsk may number caller (Draw words) = (key : List ℕ) → partition_of (hash_of key) ≡ number → may caller key chunk.Take

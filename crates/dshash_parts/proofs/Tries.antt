-- What a call that was tried once tells of its key's partition.
use Rattle.std.proofs.Common.{◌≡◌, ℕ, Bool, List, Option, Result, Ok, Err, IfOk, Vec, Global, is_some, refl, ap, ◌∙◌, subst}
use Rattle.std.specs.FinMap as fin
use Rattle.std.specs.declared.alloc.AllocError.{AllocError}
use Rattle.region_words.specs.declared.chunk.Chunk.{Chunk}
use Rattle.lock_book.specs.History.{entry}
use Rattle.lock_book.specs.Told.{Histories}
use Rattle.dshash_core.specs.Cells.{KeyMap, partition_of}
use Rattle.dshash_core.specs.Key.{hash_of}
use Rattle.dshash_core.specs.Listing.{HaveWords, pairs_of}
use Rattle.dshash_core.specs.Outcome.{ListsAll, next_of}
use Rattle.dshash_core.specs.declared.entries.Entry.{Entry}
use Rattle.dshash_core.specs.declared.outcome.CoreOut.{CoreOut}
use Rattle.dshash_core.specs.declared.outcome.CoreOut.TheVariants.{Done, NeedItem, TooFull}
use Rattle.dshash_parts.specs.Asked.{AnswerFits, listed_of, outcome_of, reply_of}
use Rattle.dshash_parts.specs.States.{PartitionState}
use Rattle.dshash_parts.specs.Tables.{AtPartition, map_at}
use Rattle.dshash_parts.specs.Tries.{Tells}
use Rattle.dshash_parts.specs.declared.histories.PartitionCalls.{PartitionCalls}
use Rattle.dshash_parts.specs.declared.histories.PartitionCalls.TheVariants.{Call, Lists}
use Rattle.dshash_parts.specs.declared.histories.PartitionReplies.{PartitionReplies}
use Rattle.dshash_parts.specs.declared.histories.PartitionReplies.TheVariants.{Made}
use Rattle.dshash_parts.proofs.Replays.{changed_here}
use Rattle.dshash_parts.proofs.Sizes.{grow_tells, listing_tells, turn_begins, turn_legal}
use Rattle.dshash_parts.specs.declared.asks.TableAnswer.{TableAnswer}
use Rattle.dshash_parts.specs.declared.asks.TableAnswer.TheVariants.{Came, Long, Size, LeftOver, Entries, Took}
use Rattle.dshash_parts.specs.declared.asks.TableAsk.TheVariants.{Make, Look, Grow, List as ListAll}
use Rattle.dshash_parts.specs.declared.histories.PartitionName.{PartitionName}

module _ {O S C R : Type 0} (step : Option S → C → Option S × R) (n : ℕ) (seen mine seen' mine' : Histories (PartitionState S) (PartitionCalls C) (PartitionReplies S R)) (key : List ℕ) (call : C) (spare : Bool) where
  pub tells : (out : CoreOut O S C R) → AtPartition step n seen mine seen' mine' (partition_of (hash_of key)) (Call key call spare) (outcome_of out) → Tells step n seen' key call out
  tells (Done reply unused freed) turn =
      let home = partition_of (hash_of key) in
      let t = turn_legal step n seen mine seen' mine' home (Call key call spare) (Made reply (is_some unused) (is_some freed)) turn in
      let x = turn.here in (
        record {
          before = x.2.before;
          last = entry n (Call key call spare) (Made reply (is_some unused) (is_some freed)) x.2.after;
          ends = x.3.0 ∙ x.2.ends;
          from = fin.get t.0.cells key;
          was = ap (λ (s : PartitionState S). fin.get s.cells key) (turn_begins step n seen mine seen' mine' home (Call key call spare) (Made reply (is_some unused) (is_some freed)) turn);
          replied = t.1.is.1.replied;
          stands = ap (λ (m : KeyMap S). fin.get m key) t.1.is.1.steps ∙ changed_here step t.0.cells key (next_of step t.0.cells key call) key refl;
        },
        record { before = x.2.before; after = x.2.after; spare = spare; unused = is_some unused; freed = is_some freed; ends = x.3.0 ∙ x.2.ends },
      )
  tells NeedItem turn = tt
  tells (TooFull size back) turn = grow_tells step n seen mine seen' mine' (partition_of (hash_of key)) key call spare (is_some back) size turn

-- a listing that had memory tells the map
pub all_listed : {S C R V E : Type 0} (step : Option S → C → Option S × R) (pairs : V → List (List ℕ × S)) (n : ℕ) (seen mine seen' mine' : Histories (PartitionState S) (PartitionCalls C) (PartitionReplies S R)) (number : ℕ) (entries : Result V E)
    → AtPartition step n seen mine seen' mine' number Lists (listed_of pairs entries) → IfOk entries (λ v. ListsAll (map_at seen' number) (pairs v))
all_listed step pairs n seen mine seen' mine' number (Ok v) a = listing_tells step n seen mine seen' mine' number (pairs v) a
all_listed step pairs n seen mine seen' mine' number (Err e) a = tt

-- the event of an answer, told by what it is
module _ {O S C R : Type 0} (step : Option S → C → Option S × R) (n : ℕ) (seen mine seen' mine' : Histories (PartitionState S) (PartitionCalls C) (PartitionReplies S R)) (number : ℕ) (call : PartitionCalls C) where
  pub answered : (answer is : TableAnswer O S C R) → answer ≡ is → AtPartition step n seen mine seen' mine' number call (reply_of answer) → AtPartition step n seen mine seen' mine' number call (reply_of is)
  answered answer is e turn = subst (λ (z : TableAnswer O S C R). AtPartition step n seen mine seen' mine' number call (reply_of z)) e turn

  pub came : (out is : CoreOut O S C R) → out ≡ is → AtPartition step n seen mine seen' mine' number call (outcome_of out) → AtPartition step n seen mine seen' mine' number call (outcome_of is)
  came out is e turn = subst (λ (z : CoreOut O S C R). AtPartition step n seen mine seen' mine' number call (outcome_of z)) e turn

-- what an answer is, of the ask that it fits
module _ {O S C R : Type 0} (n : PartitionName) where
  pub is_came : (hash : ℕ) (key : List ℕ) (call : C) (spare : Option Chunk) (answer : TableAnswer O S C R) → AnswerFits n (Make hash key call spare) answer → (out : CoreOut O S C R) × (answer ≡ Came out)
  is_came hash key call spare (Came out) f = (out, refl)
  is_came hash key call spare (Long s x y) f = absurd f
  is_came hash key call spare (Size x keys) f = absurd f
  is_came hash key call spare (LeftOver x) f = absurd f
  is_came hash key call spare (Entries x) f = absurd f
  is_came hash key call spare (Took x) f = absurd f

  pub is_left_over : (size : ℕ) (slice : Chunk) (answer : TableAnswer O S C R) → AnswerFits n (Grow size slice) answer → (left : Chunk) × (answer ≡ LeftOver left)
  is_left_over size slice (LeftOver left) f = (left, refl)
  is_left_over size slice (Came x) f = absurd f
  is_left_over size slice (Long s x y) f = absurd f
  is_left_over size slice (Size x keys) f = absurd f
  is_left_over size slice (Entries x) f = absurd f
  is_left_over size slice (Took x) f = absurd f

  pub is_size : (answer : TableAnswer O S C R) → AnswerFits {O = O} {S = S} {C = C} {R = R} n Look answer → (size keys : ℕ) × (answer ≡ Size size keys)
  is_size (Size size keys) f = (size, keys, refl)
  is_size (Came x) f = absurd f
  is_size (Long s x y) f = absurd f
  is_size (LeftOver x) f = absurd f
  is_size (Entries x) f = absurd f
  is_size (Took x) f = absurd f

  pub is_entries : (alloc : Global) (answer : TableAnswer O S C R) → AnswerFits {O = O} {S = S} {C = C} {R = R} n (ListAll alloc) answer → (entries : Result (Vec (Entry O S C R) Global) AllocError) × (answer ≡ Entries entries)
  is_entries alloc (Entries entries) f = (entries, refl)
  is_entries alloc (Came x) f = absurd f
  is_entries alloc (Long s x y) f = absurd f
  is_entries alloc (Size x keys) f = absurd f
  is_entries alloc (LeftOver x) f = absurd f
  is_entries alloc (Took x) f = absurd f

  -- keys that are listed have the table's length
  pub entries_fit : (alloc : Global) (answer : TableAnswer O S C R) (entries : Result (Vec (Entry O S C R) Global) AllocError) → answer ≡ Entries entries → AnswerFits n (ListAll alloc) answer → IfOk entries (λ v. HaveWords n.key_words (pairs_of v.items))
  entries_fit alloc answer entries e fits = subst (λ (z : TableAnswer O S C R). AnswerFits n (ListAll alloc) z) e fits

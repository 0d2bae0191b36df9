-- What an event says of the key's chunk and its item.
use Rattle.std.proofs.Common.{◌≡◌, ℕ, Bool, true, false, ◌&&◌, List, Option, Some, None, Result, Ok, Err, IfOk, Vec, Global, is_some, option_map, refl, sym, ap, subst, ◌∙◌}
use Rattle.std.specs.FinMap as fin
use Rattle.lock_book.specs.Told.{Histories}
use Rattle.region_words.specs.declared.chunk.Chunk.{Chunk}
use Rattle.std.specs.declared.snapshot.Snapshot.{Snapshot}
use Rattle.std.specs.declared.alloc.AllocError.{AllocError}
use Rattle.dshash_core.specs.Cells.{KeyMap, PartitionView}
use Rattle.dshash_core.specs.Listing.{HaveWords, pairs_of}
use Rattle.dshash_core.specs.declared.entries.Entry.{Entry}
use Rattle.dshash_chunks.specs.declared.name.ChunkName.{ChunkName}
use Rattle.dshash_chunks.specs.declared.name.NameCall.{NameCall}
use Rattle.dshash_chunks.specs.declared.name.Names.{Names}
use Rattle.dshash_chunks.specs.Outcomes.{ListsNames}
use Rattle.dshash_chunks.specs.declared.held.Held.{Held}
use Rattle.dshash_chunks.specs.declared.held.ChunkCalls.{ChunkCalls}
use Rattle.dshash_chunks.specs.declared.held.ChunkCalls.TheVariants as chunk
use Rattle.dshash_chunks.specs.declared.held.ChunkReplies.{ChunkReplies}
use Rattle.dshash_chunks.specs.declared.held.ChunkReplies.TheVariants as said
use Rattle.dshash_chunks.specs.Held.{held_in, stepped}
use Rattle.dshash_parts.specs.States.{PartitionState}
use Rattle.dshash_parts.specs.Tables.{AtPartition, map_at}
use Rattle.dshash_parts.specs.declared.histories.PartitionCalls.{PartitionCalls}
use Rattle.dshash_parts.specs.declared.histories.PartitionReplies.{PartitionReplies}
use Rattle.dshash_parts.specs.declared.histories.PartitionCalls.TheVariants.{Call, Lists}
use Rattle.dshash_parts.specs.declared.histories.PartitionReplies.TheVariants.{Made}
use Rattle.dshash_parts.proofs.Sizes.{turn_legal, listing_tells}
use Rattle.chunk_table.specs.Asked.{reply_of}
use Rattle.chunk_table.specs.declared.asks.ChunkAnswer.TheVariants.{Listed}
use Rattle.chunk_table.proofs.Legals.{entries_all}

-- the chunk that a reply hands out, if any
abbrev was_of : {R : Type 0} → ChunkReplies R → Option Held
was_of (said.Was o) = o
was_of (said.Did o) = None

some-map : {A B : Type 0} (f : A → B) (o : Option A) → is_some (option_map f o) ≡ is_some o
some-map f (Some x) = refl
some-map f None = refl

whole : (b : Bool) → (b && true) ≡ b
whole true = refl
whole false = refl

-- an item comes exactly with a chunk
pub taken_both : {C R : Type 0} (worked : List ℕ → C → List ℕ × R) (n : ℕ) (seen mine seen' mine' : Histories (PartitionState Held) (PartitionCalls (ChunkCalls C)) (PartitionReplies Held (ChunkReplies R))) (number : ℕ) (key : List ℕ) (out : Option Chunk) (freed : Bool)
    → AtPartition (stepped worked) n seen mine seen' mine' number (Call key chunk.Take false) (Made (said.Was (option_map held_in out)) false freed) → freed ≡ is_some out
taken_both worked n seen mine seen' mine' number key out freed event =
    let t = turn_legal (stepped worked) n seen mine seen' mine' number (Call key chunk.Take false) (Made (said.Was (option_map held_in out)) false freed) event in
    let made = t.1.is.1 in
    let was : option_map held_in out ≡ fin.get t.0.cells key = ap was_of made.replied in
    made.freed_is ∙ (whole (is_some (fin.get t.0.cells key)) ∙ (sym (ap is_some was) ∙ some-map held_in out))

-- a listing tells the names of the map
pub listed_here : {C R : Type 0} (W : Type 0) (step : Option Held → ChunkCalls C → Option Held × ChunkReplies R) (key_words n : ℕ) (seen mine seen' mine' : Histories (PartitionState Held) (PartitionCalls (ChunkCalls C)) (PartitionReplies Held (ChunkReplies R))) (number : ℕ) (r : Result (Vec (Entry Names ChunkName NameCall (Option ChunkName)) Global) AllocError) (then : Snapshot (PartitionView Held))
    → AtPartition step n seen mine seen' mine' number Lists (reply_of {W = W} {C = C} {R = R} (Listed r then)) → IfOk r (λ v. ListsNames then.value.cells (pairs_of v.items) × HaveWords key_words (pairs_of v.items)) → IfOk r (λ v. ListsNames (map_at seen' number) (pairs_of v.items))
listed_here W step key_words n seen mine seen' mine' number (Ok v) then event fits =
    let told = listing_tells step n seen mine seen' mine' number (fin.entries then.value.cells) event in
    subst (λ (m : KeyMap Held). ListsNames m (pairs_of v.items)) (sym (entries_all then.value.cells).all ∙ told.all) fits.0
listed_here W step key_words n seen mine seen' mine' number (Err e) then event fits = tt

pub long_here : {V E : Type 0} (P Q : V → Type 0) (r : Result V E) → IfOk r (λ v. P v × Q v) → IfOk r Q
long_here P Q (Ok v) f = f.1
long_here P Q (Err e) f = f

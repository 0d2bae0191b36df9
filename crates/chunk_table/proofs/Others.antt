-- Each ask has one kind of answer.
use Rattle.std.proofs.Common.{◌≡◌, ℕ, List, Option, Result, Vec, Global, refl}
use Rattle.std.specs.declared.snapshot.Snapshot.{Snapshot}
use Rattle.std.specs.declared.alloc.AllocError.{AllocError}
use Rattle.region_words.specs.declared.chunk.Chunk.{Chunk}
use Rattle.dshash_core.specs.Cells.{PartitionView}
use Rattle.dshash_chunks.specs.declared.held.Held.{Held}
use Rattle.dshash_core.specs.declared.entries.Entry.{Entry}
use Rattle.dshash_chunks.specs.declared.name.ChunkName.{ChunkName}
use Rattle.dshash_chunks.specs.declared.name.NameCall.{NameCall}
use Rattle.dshash_chunks.specs.declared.name.Names.{Names}
use Rattle.dshash_chunks.specs.declared.outcome.PutOut.{PutOut}
use Rattle.dshash_chunks.specs.declared.outcome.TookOut.{TookOut}
use Rattle.dshash_chunks.specs.declared.outcome.TakenChunk.{TakenChunk}
use Rattle.dshash_parts.specs.declared.histories.PartitionName.{PartitionName}
use Rattle.chunk_table.specs.Asked.{AnswerFits}
use Rattle.chunk_table.specs.declared.asks.ChunkAsk.TheVariants.{Put, Take, With, Look, Grow, List as ListAll, Draw}
use Rattle.chunk_table.specs.declared.asks.ChunkAnswer.{ChunkAnswer}
use Rattle.chunk_table.specs.declared.asks.ChunkAnswer.TheVariants.{Placed, Out, Did, Size, LeftOver, Listed, Drawn}

module _ {W C R : Type 0} where
  pub no_other_put : (n : PartitionName) (hash : ℕ) (key : List ℕ) (c : Chunk) (spare : Option Chunk) (answer : ChunkAnswer W C R) → AnswerFits {W = W} {C = C} {R = R} n (Put hash key c spare) answer → ((x : PutOut) → answer ≡ Placed x → ⊥) → ⊥
  no_other_put n hash key c spare (Placed x) f g = g x refl
  no_other_put n hash key c spare (Out x) f g = f
  no_other_put n hash key c spare (Did x) f g = f
  no_other_put n hash key c spare (Size x keys) f g = f
  no_other_put n hash key c spare (LeftOver x) f g = f
  no_other_put n hash key c spare (Listed x then) f g = f
  no_other_put n hash key c spare (Drawn x) f g = f

  pub no_other_take : (n : PartitionName) (hash : ℕ) (key : List ℕ) (answer : ChunkAnswer W C R) → AnswerFits {W = W} {C = C} {R = R} n (Take hash key) answer → ((x : TookOut) → answer ≡ Out x → ⊥) → ⊥
  no_other_take n hash key (Placed x) f g = f
  no_other_take n hash key (Out x) f g = g x refl
  no_other_take n hash key (Did x) f g = f
  no_other_take n hash key (Size x keys) f g = f
  no_other_take n hash key (LeftOver x) f g = f
  no_other_take n hash key (Listed x then) f g = f
  no_other_take n hash key (Drawn x) f g = f

  pub no_other_with : (n : PartitionName) (hash : ℕ) (key : List ℕ) (call : C) (answer : ChunkAnswer W C R) → AnswerFits {W = W} {C = C} {R = R} n (With hash key call) answer → ((x : Option R) → answer ≡ Did x → ⊥) → ⊥
  no_other_with n hash key call (Placed x) f g = f
  no_other_with n hash key call (Out x) f g = f
  no_other_with n hash key call (Did x) f g = g x refl
  no_other_with n hash key call (Size x keys) f g = f
  no_other_with n hash key call (LeftOver x) f g = f
  no_other_with n hash key call (Listed x then) f g = f
  no_other_with n hash key call (Drawn x) f g = f

  pub no_other_look : (n : PartitionName) (answer : ChunkAnswer W C R) → AnswerFits {W = W} {C = C} {R = R} n Look answer → ((x keys : ℕ) → answer ≡ Size x keys → ⊥) → ⊥
  no_other_look n (Placed x) f g = f
  no_other_look n (Out x) f g = f
  no_other_look n (Did x) f g = f
  no_other_look n (Size x keys) f g = g x keys refl
  no_other_look n (LeftOver x) f g = f
  no_other_look n (Listed x then) f g = f
  no_other_look n (Drawn x) f g = f

  pub no_other_grow : (n : PartitionName) (size : ℕ) (slice : Chunk) (answer : ChunkAnswer W C R) → AnswerFits {W = W} {C = C} {R = R} n (Grow size slice) answer → ((x : Chunk) → answer ≡ LeftOver x → ⊥) → ⊥
  no_other_grow n size slice (Placed x) f g = f
  no_other_grow n size slice (Out x) f g = f
  no_other_grow n size slice (Did x) f g = f
  no_other_grow n size slice (Size x keys) f g = f
  no_other_grow n size slice (LeftOver x) f g = g x refl
  no_other_grow n size slice (Listed x then) f g = f
  no_other_grow n size slice (Drawn x) f g = f

  pub no_other_list : (n : PartitionName) (alloc : Global) (answer : ChunkAnswer W C R) → AnswerFits {W = W} {C = C} {R = R} n (ListAll alloc) answer → ((x : Result (Vec (Entry Names ChunkName NameCall (Option ChunkName)) Global) AllocError) (then : Snapshot (PartitionView Held)) → answer ≡ Listed x then → ⊥) → ⊥
  no_other_list n alloc (Placed x) f g = f
  no_other_list n alloc (Out x) f g = f
  no_other_list n alloc (Did x) f g = f
  no_other_list n alloc (Size x keys) f g = f
  no_other_list n alloc (LeftOver x) f g = f
  no_other_list n alloc (Listed x then) f g = g x then refl
  no_other_list n alloc (Drawn x) f g = f

  pub no_other_draw : (n : PartitionName) (words : Vec ℕ Global) (answer : ChunkAnswer W C R) → AnswerFits {W = W} {C = C} {R = R} n (Draw words) answer → ((x : TakenChunk) → answer ≡ Drawn x → ⊥) → ((x keys : ℕ) → answer ≡ Size x keys → ⊥) → ⊥
  no_other_draw n words (Placed x) f g h = f
  no_other_draw n words (Out x) f g h = f
  no_other_draw n words (Did x) f g h = f
  no_other_draw n words (Size x keys) f g h = h x keys refl
  no_other_draw n words (LeftOver x) f g h = f
  no_other_draw n words (Listed x then) f g h = f
  no_other_draw n words (Drawn x) f g h = g x refl

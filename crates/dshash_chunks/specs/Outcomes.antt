-- What calls of a partition of chunks answer.
use Rattle.std.specs.Prelude.{◌≡◌, ℕ, Bool, false, List, map, Option, Some, is_some, IfSome}
use Rattle.std.specs.Option.{option_map}
use Rattle.atomic_table.specs.Seated.{TableId}
use Rattle.region_words.specs.declared.chunk.Chunk.{Chunk}
use Rattle.dshash_core.specs.Cells.{KeyMap}
use Rattle.dshash_core.specs.Outcome.{IsDone, IsNeedItem, IsTooFull, ListsAll}
use Rattle.dshash_chunks.specs.declared.held.Held.{Held}
use Rattle.dshash_chunks.specs.declared.held.ChunkCalls.{ChunkCalls}
use Rattle.dshash_chunks.specs.declared.held.ChunkCalls.TheVariants.{Put}
use Rattle.dshash_chunks.specs.declared.held.ChunkReplies.{ChunkReplies}
use Rattle.dshash_chunks.specs.declared.held.ChunkReplies.TheVariants.{Was}
use Rattle.dshash_chunks.specs.declared.name.ChunkName.{ChunkName}
use Rattle.dshash_chunks.specs.declared.outcome.PutOut.{PutOut}
use Rattle.dshash_chunks.specs.declared.outcome.PutOut.TheVariants.{Done, NeedItem, TooFull}
use Rattle.dshash_chunks.specs.Held.{held_in, name_of}

-- the answer to a put of this chunk is the one that comes, and `after` is the map then. A put frees no item
abbrev pub IsPutOut : {C R : Type 0} → (Option Held → ChunkCalls C → Option Held × ChunkReplies R) → ℕ → KeyMap Held → List ℕ → Held → Bool → PutOut → KeyMap Held → Type 0
IsPutOut step size before key new spare (Done old unused) after = IsDone step size before key (Put new) spare (Was (option_map held_in old)) (is_some unused) false after
IsPutOut step size before key new spare (NeedItem chunk) after = IsNeedItem step size before key (Put new) spare after
IsPutOut step size before key new spare (TooFull told chunk back) after = IsTooFull step size before key (Put new) spare told (is_some back) after

-- what is handed out: the chunk that was there, which is of this region; the spare item itself, if it was not taken; and
-- the chunk itself, if it was not put
abbrev pub HandsBack : TableId → Chunk → Option Chunk → PutOut → Type 0
HandsBack region new spare (Done old unused) = IfSome old (λ c. c.part.region ≡ region) × IfSome unused (λ c. spare ≡ Some c)
HandsBack region new spare (NeedItem chunk) = chunk ≡ new
HandsBack region new spare (TooFull told chunk back) = (chunk ≡ new) × (back ≡ spare)

-- the pairs are the entries of the map, each once, without what is in the chunks
pub record ListsNames (m : KeyMap Held) (pairs : List (List ℕ × ChunkName)) : Type 0 where
  pub entries : List (List ℕ × Held)
  pub all : ListsAll m entries
  pub names : map (λ e. (e.0, name_of e.1)) entries ≡ pairs

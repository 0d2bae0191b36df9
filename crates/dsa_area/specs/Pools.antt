-- A locked pool: which call an ask represents, which reply an answer represents, and the tokens that go in and come
-- out.
use Rattle.std.specs.Prelude.{◌≡◌, ℕ, ◌*◌, ◌≤◌, List, [], ◌∷◌, Option, Some, None, Vec, vec_capacity}
use Rattle.std.specs.Global.{Global}
use Rattle.region_words.specs.declared.chunk.Chunk.{Chunk}
use Rattle.span_pools.specs.Legal.{PoolState, PoolCall, PoolReply, Alloc, Add, Free, AllocMany, FreeMany, Trim, Object, Full, Kept, Whole, Stranger, Objects}
use Rattle.span_pools.specs.Legal as pool
use Rattle.span_pools.specs.declared.histories.PoolName.{PoolName}
use Rattle.span_pools.specs.PoolView.{PoolView, IsSuperblock}
use Rattle.span_pools.specs.Batch.{AreChunks, IsRest, gone, places}
use Rattle.dsa_area.specs.declared.pools.PoolAsk.{PoolAsk}
use Rattle.dsa_area.specs.declared.pools.PoolAsk.TheVariants.{AllocObject, AddRun, FreeObject, AllocObjects, FreeObjects, TrimPool}
use Rattle.dsa_area.specs.declared.pools.PoolAnswer.{PoolAnswer}
use Rattle.dsa_area.specs.declared.pools.PoolAnswer.TheVariants.{Given, AllLive, Freed, Emptied, NotOurs, Filled, FreedMany, EmptiedMany, NotAllOurs, Untouched}

-- the name of this pool
abbrev pub name_of : PoolView → PoolName
name_of v = record { region = v.region; layout = v.layout }

-- the call of an ask
abbrev pub call_of : PoolAsk → PoolCall
call_of AllocObject = Alloc
call_of (AddRun run) = Add run.at
call_of (FreeObject chunk) = Free chunk.at chunk.bytes
call_of (AllocObjects count objects) = AllocMany count
call_of (FreeObjects count objects) = FreeMany (places objects.items)
call_of TrimPool = Trim

-- of a list, those objects come back that are not in the rest of it
abbrev pub chosen_of : PoolAsk → PoolAnswer → Option PoolCall
chosen_of (FreeObjects count objects) (FreedMany rest) = Some (FreeMany (places (gone objects.items rest.items)))
chosen_of (FreeObjects count objects) (EmptiedMany rest run) = Some (FreeMany (places (gone objects.items rest.items)))
chosen_of (FreeObjects count objects) (NotAllOurs rest chunk) = Some (FreeMany (places (gone objects.items rest.items)))
chosen_of ask answer = None

-- the reply of an answer
abbrev pub reply_of : PoolAnswer → PoolReply
reply_of (Given chunk) = Object chunk.at
reply_of AllLive = Full
reply_of Freed = Kept
reply_of (Emptied run) = Whole run.at
reply_of (NotOurs chunk) = Stranger
reply_of (Filled objects) = Objects (places objects.items)
reply_of (FreedMany rest) = Kept
reply_of (EmptiedMany rest run) = Whole run.at
reply_of (NotAllOurs rest chunk) = Stranger
reply_of Untouched = Kept

-- a superblock is one of these pages; an object that comes back is of this region; a list to be filled is empty and has
-- room; objects that come back as a list have the bytes of the class, too
abbrev pub AskFits : PoolName → PoolAsk → Type 0
AskFits n AllocObject = Unit {0}
AskFits n (AddRun run) = IsSuperblock n.region n.layout run.at run.pages run.words run.control
AskFits n (FreeObject chunk) = chunk.part.region ≡ n.region
AskFits n (AllocObjects count objects) = (objects.items ≡ []) × (count ≤ vec_capacity objects)
AskFits n (FreeObjects count objects) = AreChunks n.region (8 * n.layout.size) objects.items
AskFits n TrimPool = Unit {0}

-- the bytes and the region of an object
abbrev pub IsObject : PoolName → Chunk → Type 0
IsObject n chunk = (chunk.bytes ≡ 8 * n.layout.size) × (chunk.part.region ≡ n.region)

-- the rest of a list, whose memory it has
abbrev pub IsRestOf : ℕ → Vec Chunk Global → Vec Chunk Global → Type 0
IsRestOf count objects rest = IsRest count objects.items rest.items × (vec_capacity rest ≡ vec_capacity objects)

-- an object has the bytes of the class; a superblock that goes out is one of these pages; an object that is handed
-- back is the one that was brought, or the last that went off the list
abbrev pub AnswerFits : PoolName → PoolAsk → PoolAnswer → Type 0
AnswerFits n AllocObject (Given chunk) = IsObject n chunk
AnswerFits n AllocObject AllLive = Unit {0}
AnswerFits n (AddRun run) (Given chunk) = IsObject n chunk
AnswerFits n (FreeObject chunk) Freed = Unit {0}
AnswerFits n (FreeObject chunk) (Emptied run) = IsSuperblock n.region n.layout run.at run.pages run.words run.control
AnswerFits n (FreeObject chunk) (NotOurs other) = other ≡ chunk
AnswerFits n (AllocObjects count objects) (Filled filled) = AreChunks n.region (8 * n.layout.size) filled.items × (vec_capacity filled ≡ vec_capacity objects)
AnswerFits n (FreeObjects count objects) (FreedMany rest) = IsRestOf count objects rest
AnswerFits n (FreeObjects count objects) (EmptiedMany rest run) = IsRestOf count objects rest × IsSuperblock n.region n.layout run.at run.pages run.words run.control
AnswerFits n (FreeObjects count objects) (NotAllOurs rest chunk) = IsRestOf count objects rest × ((others : List Chunk) × (gone objects.items rest.items ≡ chunk ∷ others))
AnswerFits n TrimPool (Emptied run) = IsSuperblock n.region n.layout run.at run.pages run.words run.control
AnswerFits n TrimPool Untouched = Unit {0}
AnswerFits n ask answer = ⊥

-- what a call of any caller may reply, and what it does to the state
abbrev pub PoolLegal : PoolName → ℕ → PoolState → PoolCall → PoolReply → PoolState → Type 0
PoolLegal n caller before call reply after = pool.IsLegal n.layout before call reply after

-- The commands over chunks: what each is answered, and what it does. This page goes with the table "Chunks" of
-- docs/SHELL.md.
use Rattle.std.specs.Prelude.{◌≡◌, ◌≢◌, ◌⊎◌, ℕ, ◌+◌, ◌/◌, ◌<◌, ◌≤◌, ◌++◌, List, codes, decimal, Option, Some, None}
use Rattle.std.specs.BTreeMap.{BTreeMap, get_by}
use Rattle.std.specs.FinMap as fin
use Rattle.std.specs.Global.{Vec}
use Rattle.std.specs.Ordering.{nat_cmp}
use Rattle.atomic_table.specs.Seated.{TableId}
use Rattle.dsa_area.specs.Requests.{IsGranted, IsHandedBack, IsRefused, IsTakenBack}
use Rattle.dsa_area.specs.Shown.{Belongs, IsArea, callers_of}
use Rattle.dsa_area.specs.Sizes.{chunk_size}
use Rattle.region_words.specs.Parts.{owned}
use Rattle.region_words.specs.declared.chunk.Chunk.{Chunk}
use Rattle.word_map.specs.WordMap.{at as word_at}
use Rattle.shell_memory.specs.Names.{IsFree, Puts, Stays, under}
use Rattle.shell_lines.specs.ChunkRequests.{ChunkRequest, Alloc, Free, Store, Load}
use Rattle.shell_memory.specs.declared.chunks.ChunkAnswer.{ChunkAnswer}
use Rattle.shell_memory.specs.declared.chunks.ChunkAnswer.TheVariants.{Named, NoName, Range, Done, Granted, NoSpace, Stranger, Value}
use Rattle.shell_memory.specs.declared.chunks.Chunks.{Chunks}
use Rattle.shell_memory.specs.declared.heap.Heap.{Heap}

-- the line of an answer
abbrev pub text_of : ChunkAnswer → List ℕ
text_of Named = codes "named"
text_of NoName = codes "noname"
text_of Range = codes "range"
text_of Done = codes "ok"
text_of (Granted bytes) = codes "ok " ++ decimal bytes
text_of (NoSpace pages largest) = codes "nospace " ++ (decimal pages ++ (codes " " ++ decimal largest))
text_of Stranger = codes "stranger"
text_of (Value value) = decimal value

-- the area of a region and the pass of its one caller
pub record IsHeap (region : TableId) (h : Heap) : Type 0 where
  pub area : IsArea region h.area
  pub own : Belongs h.area h.pass
  pub alone : callers_of h.area ≡ 1

-- the name that is kept for a place
abbrev pub name_beside : BTreeMap ℕ (Vec ℕ) → ℕ → Option (Vec ℕ)
name_beside places place = get_by (nat_cmp place) places

-- the chunk of a name
abbrev pub chunk_of : Chunks → List ℕ → Option Chunk
chunk_of c name = under c.named name

-- each chunk that has a name is one of the region's, and its name is kept for its place; and a name that is kept for a
-- place is that of a chunk that begins there
pub record AreChunks (region : TableId) (c : Chunks) : Type 0 where
  pub here : (name : List ℕ) (chunk : Chunk) → chunk_of c name ≡ Some chunk → chunk.part.region ≡ region
  pub some : (name : List ℕ) (chunk : Chunk) → chunk_of c name ≡ Some chunk → 0 < chunk.bytes
  pub noted : (name : List ℕ) (chunk : Chunk) → chunk_of c name ≡ Some chunk → (key : Vec ℕ) × (name_beside c.places chunk.at ≡ Some key) × (key.items ≡ name)
  pub right : (place : ℕ) (key : Vec ℕ) → name_beside c.places place ≡ Some key → (chunk : Chunk) × (chunk_of c key.items ≡ Some chunk) × (chunk.at ≡ place)

-- the chunk after its n-th word has got a value
abbrev pub with_word : Chunk → ℕ → ℕ → Chunk → Type 0
with_word chunk n value new =
    (new.at ≡ chunk.at) × (new.bytes ≡ chunk.bytes) × (new.part ≡ owned chunk.part.region (fin.insert chunk.part.words (chunk.at + n) value))

-- a heap h and chunks c become h' and c'
module _ (h h' : Heap) (c c' : Chunks) where
  -- nothing changes
  pub record Same : Type 0 where
    pub heap : h' ≡ h
    pub chunks : Stays c.named c'.named

  -- the area is as before
  abbrev pub SameArea : Type 0
  SameArea = h'.area ≡ h.area

  -- `alloc NAME BYTES`
  abbrev pub Allocates : List ℕ → ℕ → ChunkAnswer → Type 0
  Allocates name bytes Named = (chunk_of c name ≢ None) × Same
  Allocates name bytes (Granted size) = IsFree c.named name × SameArea × ((chunk : Chunk) × (size ≡ chunk.bytes) × (size ≡ chunk_size bytes) × IsGranted h.area h.pass h'.pass bytes chunk.at × Puts c.named c'.named name (Some chunk))
  Allocates name bytes (NoSpace pages largest) = IsFree c.named name × SameArea × IsRefused h.area h.pass h'.pass bytes pages largest × Stays c.named c'.named
  Allocates name bytes answer = ⊥

  -- `free NAME`
  abbrev pub Frees : List ℕ → ChunkAnswer → Type 0
  Frees name NoName = IsFree c.named name × Same
  Frees name Done = SameArea × ((chunk : Chunk) × (chunk_of c name ≡ Some chunk) × IsTakenBack h.area h.pass h'.pass chunk.at chunk.bytes × Puts c.named c'.named name None)
  Frees name Stranger = SameArea × ((chunk : Chunk) × (chunk_of c name ≡ Some chunk) × IsHandedBack h.area h.pass h'.pass chunk.at chunk.bytes × Stays c.named c'.named)
  Frees name answer = ⊥

-- the chunk is as it was
abbrev pub IsSame : Chunk → Chunk → Type 0
IsSame chunk new = (new.at ≡ chunk.at) × (new.bytes ≡ chunk.bytes) × (new.part ≡ chunk.part)

-- a chunk becomes `new`: its n-th word gets a value, or it has no such word and is as before
abbrev pub StoresWord : Chunk → Chunk → ℕ → ℕ → ChunkAnswer → Type 0
StoresWord chunk new n value Range = (chunk.bytes / 8 ≤ n) × IsSame chunk new
StoresWord chunk new n value Done = (n < chunk.bytes / 8) × with_word chunk n value new
StoresWord chunk new n value answer = ⊥

-- a chunk stays as it is: its n-th word is read, or it has no such word
abbrev pub LoadsWord : Chunk → Chunk → ℕ → ChunkAnswer → Type 0
LoadsWord chunk new n Range = (chunk.bytes / 8 ≤ n) × IsSame chunk new
LoadsWord chunk new n (Value value) = (n < chunk.bytes / 8) × (word_at chunk.part.words (chunk.at + n) ≡ Some value) × IsSame chunk new
LoadsWord chunk new n answer = ⊥

-- chunks c become c'
module _ (c c' : Chunks) where
  -- the chunk of this name becomes another by a step, and no other changes
  abbrev pub At : List ℕ → (Chunk → Chunk → Type 0) → Type 0
  At name Step = (chunk new : Chunk) × (chunk_of c name ≡ Some chunk) × Puts c.named c'.named name (Some new) × Step chunk new

  -- nothing has the name, and nothing changes
  abbrev pub IsNoName : List ℕ → ChunkAnswer → Type 0
  IsNoName name answer = IsFree c.named name × (answer ≡ NoName) × Stays c.named c'.named

  -- `store NAME N VALUE`
  abbrev pub Stores : List ℕ → ℕ → ℕ → ChunkAnswer → Type 0
  Stores name n value answer = IsNoName name answer ⊎ At name (λ chunk new. StoresWord chunk new n value answer)

  -- `load NAME N`
  abbrev pub Loads : List ℕ → ℕ → ChunkAnswer → Type 0
  Loads name n answer = IsNoName name answer ⊎ At name (λ chunk new. LoadsWord chunk new n answer)

-- what a request is answered, and what it does
abbrev pub Answers : ChunkRequest → Heap → Heap → Chunks → Chunks → ChunkAnswer → Type 0
Answers (Alloc name bytes) h h' c c' answer = Allocates h h' c c' name bytes answer
Answers (Free name) h h' c c' answer = Frees h h' c c' name answer
Answers (Store name n value) h h' c c' answer = (h' ≡ h) × Stores c c' name n value answer
Answers (Load name n) h h' c c' answer = (h' ≡ h) × Loads c c' name n answer

-- the line that a request is answered
pub record IsAnswered (request : ChunkRequest) (h h' : Heap) (c c' : Chunks) (line : List ℕ) : Type 0 where
  pub answer : ChunkAnswer
  pub text : line ≡ text_of answer
  pub does : Answers request h h' c c' answer

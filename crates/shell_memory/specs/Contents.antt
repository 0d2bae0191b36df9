-- The commands over the table of contents: what each is answered, and what it does. This page goes with the table "The
-- table of contents" of docs/SHELL.md.
use Rattle.std.specs.Prelude.{◌≡◌, ◌≢◌, ◌⊎◌, ℕ, ◌++◌, Bool, true, false, List, codes, decimal, Option, Some, None, IfSome, IsSome}
use Rattle.atomic_table.specs.Seated.{TableId}
use Rattle.region_words.specs.Parts.{Owned}
use Rattle.region_words.specs.declared.chunk.Chunk.{Chunk}
use Rattle.shm_toc.specs.Answers.{IsFull}
use Rattle.shm_toc.specs.Requests.{empty_table, with_chunk, with_entry}
use Rattle.shm_toc.specs.Table.{Table, low_of, place_of, rounded, table_of}
use Rattle.shm_toc.specs.declared.table.TocAnswer.{TocAnswer}
use Rattle.shm_toc.specs.declared.table.TocAnswer.TheVariants as toc
use Rattle.word_map.specs.WordMap.{WordMap}
use Rattle.shell_memory.specs.Chunks.{chunk_of}
use Rattle.shell_memory.specs.Names.{IsFree, Puts, Stays}
use Rattle.shell_lines.specs.TocRequests.{TocRequest, Alloc, Insert, Find, Freeze, Attach}
use Rattle.shell_memory.specs.declared.chunks.Chunks.{Chunks}
use Rattle.shell_memory.specs.declared.contents.Contents.{Contents}
use Rattle.shell_memory.specs.declared.contents.ContentsAnswer.{ContentsAnswer}
use Rattle.shell_memory.specs.declared.contents.ContentsAnswer.TheVariants as answer

-- a table of contents, with a mark whether it is frozen
pub record TocState : Type 0 where
  pub table : Table
  pub frozen : Bool

-- the state of a table in these words that grows, and of one that is frozen
abbrev pub growing_in : WordMap → TocState
growing_in words = record { table = table_of words; frozen = false }

abbrev pub frozen_in : WordMap → TocState
frozen_in words = record { table = table_of words; frozen = true }

-- the state that a shell's tokens show: the table in the words that its one token has
abbrev pub state_by : Option Owned → Option Owned → Option TocState
state_by (Some toc) None = Some (growing_in toc.words)
state_by None (Some toc) = Some (frozen_in toc.words)
state_by other frozen = None

-- the state that the shell's tokens show
abbrev pub state_of : Contents → Option TocState
state_of t = state_by t.growing t.frozen

-- the tokens are of the region, and there is one
pub record IsContents (region : TableId) (t : Contents) : Type 0 where
  pub growing : IfSome t.growing (λ toc. toc.region ≡ region)
  pub frozen : IfSome t.frozen (λ toc. toc.region ≡ region)
  pub one : IsSome (state_of t)

-- it goes from one state to another by a step
abbrev pub Goes : Contents → Contents → (TocState → TocState → Type 0) → Type 0
Goes t t' Step = (before after : TocState) × (state_of t ≡ Some before) × (state_of t' ≡ Some after) × Step before after

-- the table as it opens: 1,024 bytes, and the magic number 7
abbrev pub opening : TocState
opening = record { table = empty_table 7 1024; frozen = false }

-- the answer that a refusal of the table stands for
abbrev pub refusal_of : TocAnswer → ContentsAnswer
refusal_of (toc.TocFull wanted free) = answer.Full wanted free
refusal_of (toc.KeyThere at) = answer.KeyThere

-- the line of a place that was found: with the name of the chunk that begins there, if one does
abbrev pub IsFound : Chunks → ℕ → List ℕ → Type 0
IsFound c place line =
    ((name : List ℕ) × (chunk : Chunk) × (chunk_of c name ≡ Some chunk) × (chunk.at ≡ place) × (line ≡ codes "found " ++ name))
    ⊎ ((line ≡ codes "found") × ((name : List ℕ) (chunk : Chunk) → chunk_of c name ≡ Some chunk → chunk.at ≢ place))

-- the line of an answer
abbrev pub IsText : Chunks → ContentsAnswer → List ℕ → Type 0
IsText c answer.Frozen line = line ≡ codes "frozen"
IsText c answer.NotFrozen line = line ≡ codes "notfrozen"
IsText c answer.Named line = line ≡ codes "named"
IsText c answer.NoName line = line ≡ codes "noname"
IsText c answer.Done line = line ≡ codes "ok"
IsText c (answer.Granted bytes) line = line ≡ codes "ok " ++ decimal bytes
IsText c (answer.Full wanted free) line = line ≡ codes "tocfull " ++ (decimal wanted ++ (codes " " ++ decimal free))
IsText c answer.KeyThere line = line ≡ codes "keythere"
IsText c answer.None line = line ≡ codes "none"
IsText c (answer.Found place) line = IsFound c place line
IsText c (answer.WrongMagic found) line = line ≡ codes "wrongmagic " ++ decimal found

-- a state s and chunks c become s' and c'
module _ (s s' : TocState) (c c' : Chunks) where
  -- nothing changes
  abbrev pub Same : Type 0
  Same = (s' ≡ s) × Stays c.named c'.named

  -- the table has changed to this one, and grows on
  abbrev pub Becomes : Table → Type 0
  Becomes table = s' ≡ record { table = table; frozen = false }

  -- `toc alloc NAME BYTES`
  abbrev pub Allocates : List ℕ → ℕ → ContentsAnswer → Type 0
  Allocates name bytes answer.Frozen = (s.frozen ≡ true) × Same
  Allocates name bytes answer.Named = (s.frozen ≡ false) × (chunk_of c name ≢ None) × Same
  Allocates name bytes (answer.Granted size) = (s.frozen ≡ false) × IsFree c.named name × (size ≡ rounded bytes) × Becomes (with_chunk s.table bytes) × ((chunk : Chunk) × (chunk.bytes ≡ size) × (chunk.at ≡ low_of s'.table) × Puts c.named c'.named name (Some chunk))
  Allocates name bytes (answer.Full wanted free) = (s.frozen ≡ false) × IsFree c.named name × IsFull s.table (rounded bytes) (toc.TocFull wanted free) × Same
  Allocates name bytes other = ⊥

  -- `toc insert KEYNUMBER NAME`
  abbrev pub Inserts : ℕ → List ℕ → ContentsAnswer → Type 0
  Inserts key name answer.Frozen = (s.frozen ≡ true) × Same
  Inserts key name answer.NoName = (s.frozen ≡ false) × IsFree c.named name × Same
  Inserts key name answer.Done = (s.frozen ≡ false) × (place_of s.table.entries key ≡ None) × ((chunk : Chunk) × (chunk_of c name ≡ Some chunk) × Becomes (with_entry s.table (record { key = key; place = chunk.at }))) × Stays c.named c'.named
  Inserts key name answer.KeyThere = (s.frozen ≡ false) × (chunk_of c name ≢ None) × IsSome (place_of s.table.entries key) × Same
  Inserts key name (answer.Full wanted free) = (s.frozen ≡ false) × (chunk_of c name ≢ None) × (place_of s.table.entries key ≡ None) × IsFull s.table 16 (toc.TocFull wanted free) × Same
  Inserts key name other = ⊥

  -- `toc find KEYNUMBER`
  abbrev pub Finds : ℕ → ContentsAnswer → Type 0
  Finds key answer.NotFrozen = (s.frozen ≡ false) × Same
  Finds key answer.None = (s.frozen ≡ true) × (place_of s.table.entries key ≡ None) × Same
  Finds key (answer.Found place) = (s.frozen ≡ true) × (place_of s.table.entries key ≡ Some place) × Same
  Finds key other = ⊥

  -- `toc freeze`
  abbrev pub Freezes : ContentsAnswer → Type 0
  Freezes answer.Frozen = (s.frozen ≡ true) × Same
  Freezes answer.Done = (s.frozen ≡ false) × (s' ≡ record { table = s.table; frozen = true }) × Stays c.named c'.named
  Freezes other = ⊥

  -- `toc attach MAGIC`
  abbrev pub Attaches : ℕ → ContentsAnswer → Type 0
  Attaches magic answer.NotFrozen = (s.frozen ≡ false) × Same
  Attaches magic answer.Done = (s.frozen ≡ true) × (s.table.magic ≡ magic) × Same
  Attaches magic (answer.WrongMagic found) = (s.frozen ≡ true) × (found ≢ magic) × (found ≡ s.table.magic) × Same
  Attaches magic other = ⊥

-- what a request is answered, and what it does
abbrev pub Answers : TocRequest → TocState → TocState → Chunks → Chunks → ContentsAnswer → Type 0
Answers (Alloc name bytes) s s' c c' answer = Allocates s s' c c' name bytes answer
Answers (Insert key name) s s' c c' answer = Inserts s s' c c' key name answer
Answers (Find key) s s' c c' answer = Finds s s' c c' key answer
Answers Freeze s s' c c' answer = Freezes s s' c c' answer
Answers (Attach magic) s s' c c' answer = Attaches s s' c c' magic answer

-- the line that a request is answered
pub record IsAnswered (request : TocRequest) (t t' : Contents) (c c' : Chunks) (line : List ℕ) : Type 0 where
  pub answer : ContentsAnswer
  pub text : IsText c' answer line
  pub does : Goes t t' (λ before after. Answers request before after c c' answer)

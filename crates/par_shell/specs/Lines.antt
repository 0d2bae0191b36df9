-- The shell: what it is seen as, and what one line is answered and does.
use Rattle.std.specs.Prelude.{◌≡◌, ℕ, List, Option, None, Some, codes}
use Rattle.dsa_area.specs.Shown.{IsFresh, pages_of}
use Rattle.shell_sync.specs.Barriers as barriers
use Rattle.shell_memory.specs.Chunks as chunks
use Rattle.shell_memory.specs.Contents as contents
use Rattle.shell_sync.specs.Rings as rings
use Rattle.shell_memory.specs.Tables as tables
use Rattle.shell_lines.specs.Requests.{Request, OfBarriers, OfChunks, OfRings, OfTable, OfToc, request_in}
use Rattle.par_shell.specs.declared.shell.Shell.{Shell}

-- what a shell always is
pub record IsShell (s : Shell) : Type 0 where
  pub heap : chunks.IsHeap s.region s.heap
  pub chunks : chunks.AreChunks s.region s.chunks
  pub cells : tables.IsCells s.region s.cells
  pub home : tables.CellsFrom s.heap.area s.cells
  pub rings : rings.AreRings s.region s.rings
  pub contents : contents.IsContents s.region s.contents
  pub barriers : barriers.AreBarriers s.barriers

-- a shell as it opens, over this many pages: the area is fresh, nothing has a name, there is no hash table, and the
-- table of contents is empty and grows
pub record Opens (pages : ℕ) (s : Shell) : Type 0 where
  pub pages_are : pages_of s.heap.area ≡ pages
  pub fresh : IsFresh s.heap.pass
  pub no_chunks : (name : List ℕ) → chunks.chunk_of s.chunks name ≡ None
  pub no_table : tables.table_of s.cells ≡ None
  pub no_rings : (name : List ℕ) → rings.queue_of s.rings name ≡ None
  pub no_barriers : (name : List ℕ) → barriers.party_of s.barriers name ≡ None
  pub contents : contents.state_of s.contents ≡ Some contents.opening

-- a shell s becomes t
module _ (s t : Shell) where
  -- what a request is answered, and what it does: of the families that it does not name nothing changes
  abbrev pub Answers : Request → List ℕ → Type 0
  Answers (OfChunks request) line = chunks.IsAnswered request s.heap t.heap s.chunks t.chunks line × (t.cells ≡ s.cells) × (t.rings ≡ s.rings) × (t.contents ≡ s.contents) × (t.barriers ≡ s.barriers)
  Answers (OfTable request) line = tables.IsAnswered s.heap t.heap s.cells t.cells request line × (t.chunks ≡ s.chunks) × (t.rings ≡ s.rings) × (t.contents ≡ s.contents) × (t.barriers ≡ s.barriers)
  Answers (OfRings request) line = rings.IsAnswered s.heap t.heap s.rings t.rings request line × (t.chunks ≡ s.chunks) × (t.cells ≡ s.cells) × (t.contents ≡ s.contents) × (t.barriers ≡ s.barriers)
  Answers (OfToc request) line = contents.IsAnswered request s.contents t.contents s.chunks t.chunks line × (t.heap ≡ s.heap) × (t.cells ≡ s.cells) × (t.rings ≡ s.rings) × (t.barriers ≡ s.barriers)
  Answers (OfBarriers request) line = barriers.IsAnswered s.barriers t.barriers request line × (t.heap ≡ s.heap) × (t.chunks ≡ s.chunks) × (t.cells ≡ s.cells) × (t.rings ≡ s.rings) × (t.contents ≡ s.contents)

  -- the answer to a line that is a request, or is none: then nothing changes
  abbrev pub AnswersBy : Option Request → List ℕ → Type 0
  AnswersBy None answer = (answer ≡ codes "?") × (t ≡ s)
  AnswersBy (Some request) answer = (t.region ≡ s.region) × Answers request answer

  -- a line has this answer
  abbrev pub IsAnswered : List ℕ → List ℕ → Type 0
  IsAnswered line answer = AnswersBy (request_in line) answer

-- What a call of a caller does: its share s becomes t.
use Rattle.std.specs.Prelude.{◌≡◌, ◌≢◌, ℕ, ◌+◌, ◌*◌, ◌/◌, ◌<◌, ◌≤◌, ◌^◌, ◌⊎◌, true, false, Bool, List, length, Option, Some, None, IsSome, slice_index, Result, Ok, Err}
use Rattle.std_alloc.specs.Arc.{arc_value}
use Rattle.word_map.specs.WordMap.{at as word_at}
use Rattle.size_classes.specs.Classes.{IsClass}
use Rattle.free_pages.specs.declared.pages.Usage.{Usage}
use Rattle.lock_book.specs.Shown.{Called, Missed, number_of}
use Rattle.dsa_area.specs.Sizes.{chunk_size}
use Rattle.c_area.specs.Shares.{IsIn, chunk_of, extent}
use Rattle.c_area.specs.States.{AreaCall, AreaReply, Request, Return, TrimClass, LookAt, Granted, Refused, TakenBack, HandedBack, Trimmed, Untrimmed, Seen}
use Rattle.c_area.specs.declared.caller.Grant.{Grant}
use Rattle.c_area.specs.declared.code.Code.{Code}
use Rattle.c_area.specs.declared.code.Code.TheVariants.{Absent, BadSize, Done, NoMemory, NoSpace, NoWord, Stranger, WouldBlock}
use Rattle.c_area.specs.declared.shared.Extent.{Extent}
use Rattle.c_area.specs.declared.shared.Share.{Share}

module _ (s t : Share) where
  -- the same area and the same caller; the callers to come are the same
  pub record Stays : Type 0 where
    pub shared : t.shared ≡ s.shared
    pub caller : number_of t.pass ≡ number_of s.pass
    pub others : t.others ≡ s.others

  -- the same chunks, under the same numbers, with the same words in them
  pub record SameChunks : Type 0 where
    pub chunks : (number : ℕ) → chunk_of t number ≡ chunk_of s number
    pub words : t.words ≡ s.words

  -- The caller made one call, and had this reply: it is the last entry of the area's history that it has seen, legal at
  -- its place (`IsLegal`), and the last of its own
  abbrev pub Makes : AreaCall → AreaReply → Type 0
  Makes call reply = Called (arc_value s.shared).shelf s.pass t.pass 0 call reply

  -- another caller was at the area, and nothing was done
  pub record IsBusy : Type 0 where
    pub missed : Missed s.pass t.pass
    pub same : SameChunks

  -- t has one chunk more than s, under a number that was no chunk's: its words are none that s had, and all other words
  -- hold what they held
  pub record Gains (number : ℕ) (e : Extent) : Type 0 where
    pub new : chunk_of s number ≡ None
    pub there : chunk_of t number ≡ Some e
    pub others : (other : ℕ) → other ≢ number → chunk_of t other ≡ chunk_of s other
    pub fresh : (k : ℕ) → IsIn e k → word_at s.words.words k ≡ None
    pub mine : (k : ℕ) → IsIn e k → IsSome (word_at t.words.words k)
    pub rest : (k : ℕ) → (IsIn e k → ⊥) → word_at t.words.words k ≡ word_at s.words.words k

-- A request for a chunk of this many bytes. It is granted: the caller has the chunk from then on. Or another caller was
-- at the area; or there are no pages for it; or there is no memory for the chunk's number; or the bytes are none or too many
abbrev pub Allocs : Share → Share → ℕ → Result Grant Code → Type 0
Allocs s t bytes (Ok g) = Stays s t × ((at : ℕ) × Makes s t (Request bytes) (Granted at) × (g.bytes ≡ chunk_size bytes) × (bytes ≤ g.bytes) × Gains s t g.number (extent at (g.bytes / 8)))
Allocs s t bytes (Err WouldBlock) = Stays s t × IsBusy s t
Allocs s t bytes (Err NoSpace) = Stays s t × ((wanted largest : ℕ) × Makes s t (Request bytes) (Refused wanted largest)) × SameChunks s t
Allocs s t bytes (Err NoMemory) = Stays s t × (t.pass ≡ s.pass) × SameChunks s t
Allocs s t bytes (Err BadSize) = (t ≡ s) × ((bytes ≡ 0) ⊎ (2 ^ 30 < bytes))
Allocs s t bytes (Err code) = ⊥

-- A chunk is given back. It is the area's from then on; or another caller was at the area; or the caller has no chunk of
-- this number, or the area handed it back, and it is still the caller's
abbrev pub Frees : Share → Share → ℕ → Code → Type 0
Frees s t number Done = Stays s t × ((e : Extent) × Makes s t (Return e.at (8 * e.words)) TakenBack × Gains t s number e)
Frees s t number WouldBlock = Stays s t × IsSome (chunk_of s number) × IsBusy s t
Frees s t number Stranger = ((t ≡ s) × (chunk_of s number ≡ None))
    ⊎ (Stays s t × ((e : Extent) × (chunk_of s number ≡ Some e) × Makes s t (Return e.at (8 * e.words)) HandedBack) × SameChunks s t)
Frees s t number code = ⊥

-- A look at how the pages are used
abbrev pub Looks : Share → Share → Option Usage → Type 0
Looks s t (Some usage) = Stays s t × Makes s t LookAt (Seen usage.used usage.largest) × SameChunks s t
Looks s t None = Stays s t × IsBusy s t

-- A class's superblock in which nothing is live goes to the pages; or there is none; or another caller was at the area;
-- or there is no such class
abbrev pub Trims : Share → Share → ℕ → Code → Type 0
Trims s t class Done = Stays s t × Makes s t (TrimClass class) Trimmed × SameChunks s t
Trims s t class Absent = Stays s t × Makes s t (TrimClass class) Untrimmed × SameChunks s t
Trims s t class WouldBlock = Stays s t × IsBusy s t
Trims s t class BadSize = (t ≡ s) × (IsClass class → ⊥)
Trims s t class code = ⊥

-- why words of a chunk can't be read or written: the caller has no chunk of this number, or it has fewer words
abbrev pub LacksWords : Share → ℕ → ℕ → ℕ → Code → Type 0
LacksWords s number from count Stranger = chunk_of s number ≡ None
LacksWords s number from count NoWord = (e : Extent) × (chunk_of s number ≡ Some e) × (e.words < from + count)
LacksWords s number from count code = ⊥

-- the chunk of this number has the words from `from` on, as many as there are in the list
abbrev pub HasWords : Share → ℕ → ℕ → ℕ → Extent → Type 0
HasWords s number from count e = (chunk_of s number ≡ Some e) × (from + count ≤ e.words)

-- Words of a chunk are read, from its word `from` on; or `out` stays as it was. Nothing changes in the share
abbrev pub Reads : Share → Share → (number from : ℕ) (out out' : List ℕ) → Code → Type 0
Reads s t number from out out' Done = (t ≡ s) × (length out' ≡ length out) × ((e : Extent) × HasWords s number from (length out) e × ((i : ℕ) → i < length out → word_at s.words.words (e.at + from + i) ≡ Some (slice_index out' i)))
Reads s t number from out out' code = (t ≡ s) × (out' ≡ out) × LacksWords s number from (length out) code

-- t has these words in the chunk, from its word `from` on, and else what s has
pub record Stores (s t : Share) (e : Extent) (from : ℕ) (words : List ℕ) : Type 0 where
  pub chunks : t.chunks ≡ s.chunks
  pub pass : t.pass ≡ s.pass
  pub here : t.words.region ≡ s.words.region
  pub stored : (i : ℕ) → i < length words → word_at t.words.words (e.at + from + i) ≡ Some (slice_index words i)
  pub rest : (k : ℕ) → (k < e.at + from) ⊎ (e.at + from + length words ≤ k) → word_at t.words.words k ≡ word_at s.words.words k

-- Words of a chunk are written, from its word `from` on
abbrev pub Writes : Share → Share → (number from : ℕ) (words : List ℕ) → Code → Type 0
Writes s t number from words Done = Stays s t × ((e : Extent) × HasWords s number from (length words) e × Stores s t e from words)
Writes s t number from words code = (t ≡ s) × LacksWords s number from (length words) code

-- the next number of a chunk of the caller, from this number on, if there is one
abbrev pub IsNext : Share → ℕ → Option ℕ → Type 0
IsNext s from (Some number) = (from ≤ number) × IsSome (chunk_of s number) × ((k : ℕ) → from ≤ k → k < number → chunk_of s k ≡ None)
IsNext s from None = (k : ℕ) → from ≤ k → chunk_of s k ≡ None

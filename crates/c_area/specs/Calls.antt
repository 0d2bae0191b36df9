-- What a call does to a handle, by its code. A blank handle has None.
use Rattle.std.specs.Prelude.{◌≡◌, ◌≢◌, ℕ, ◌*◌, ◌⊎◌, List, Option, None, Some, IsSome, Result, Ok, Err}
use Rattle.std.specs.Option.{option_map}
use Rattle.std_alloc.specs.Arc.{arc_value}
use Rattle.free_pages.specs.declared.pages.Usage.{Usage}
use Rattle.dsa_area.specs.Sizes.{page_bytes}
use Rattle.c_area.specs.Made.{IsFirst, IsFurther, IsRefused}
use Rattle.c_area.specs.Shares.{chunk_of}
use Rattle.c_area.specs.Tries as try
use Rattle.c_area.specs.Tries.{IsNext}
use Rattle.c_area.specs.declared.caller.Grant.{Grant}
use Rattle.c_area.specs.declared.code.Code.{Code}
use Rattle.c_area.specs.declared.code.Code.TheVariants.{Absent, Blank, Done, InUse, NoMemory, StillIn, Stranger, WouldBlock}
use Rattle.c_area.specs.declared.shared.Share.{Share}

-- what a request's answer says by a code and by two numbers that are written: the chunk's number and its bytes. If it is
-- refused, they are as before
abbrev pub Answers : Result Grant Code → (number bytes number' bytes' : ℕ) → Code → Type 0
Answers (Ok g) number bytes number' bytes' code = (code ≡ Done) × (number' ≡ g.number) × (bytes' ≡ g.bytes)
Answers (Err why) number bytes number' bytes' code = (code ≡ why) × (number' ≡ number) × (bytes' ≡ bytes)

-- a request for a chunk; a blank handle stays blank and has the code Blank, as in all calls below
abbrev pub Allocs : Option Share → Option Share → (wanted number bytes number' bytes' : ℕ) → Code → Type 0
Allocs None new wanted number bytes number' bytes' code = (new ≡ None) × (code ≡ Blank) × (number' ≡ number) × (bytes' ≡ bytes)
Allocs (Some s) new wanted number bytes number' bytes' code = (t : Share) × (answer : Result Grant Code) × (new ≡ Some t) × try.Allocs s t wanted answer × Answers answer number bytes number' bytes' code

-- a chunk is given back
abbrev pub Frees : Option Share → Option Share → ℕ → Code → Type 0
Frees None new number code = (new ≡ None) × (code ≡ Blank)
Frees (Some s) new number code = (t : Share) × (new ≡ Some t) × try.Frees s t number code

-- a class's idle superblock goes to the pages
abbrev pub Trims : Option Share → Option Share → ℕ → Code → Type 0
Trims None new class code = (new ≡ None) × (code ≡ Blank)
Trims (Some s) new class code = (t : Share) × (new ≡ Some t) × try.Trims s t class code

-- what a look says by a code and by two numbers that are written: the pages that are granted, and the longest run of
-- free ones
abbrev pub Tells : Option Usage → (used largest used' largest' : ℕ) → Code → Type 0
Tells (Some usage) used largest used' largest' code = (code ≡ Done) × (used' ≡ usage.used) × (largest' ≡ usage.largest)
Tells None used largest used' largest' code = (code ≡ WouldBlock) × (used' ≡ used) × (largest' ≡ largest)

-- a look at how the pages are used
abbrev pub Looks : Option Share → Option Share → (used largest used' largest' : ℕ) → Code → Type 0
Looks None new used largest used' largest' code = (new ≡ None) × (code ≡ Blank) × (used' ≡ used) × (largest' ≡ largest)
Looks (Some s) new used largest used' largest' code = (t : Share) × (answer : Option Usage) × (new ≡ Some t) × try.Looks s t answer × Tells answer used largest used' largest' code

-- words of a chunk are read
abbrev pub Reads : Option Share → Option Share → (number from : ℕ) (out out' : List ℕ) → Code → Type 0
Reads None new number from out out' code = (new ≡ None) × (code ≡ Blank) × (out' ≡ out)
Reads (Some s) new number from out out' code = (t : Share) × (new ≡ Some t) × try.Reads s t number from out out' code

-- words of a chunk are written
abbrev pub Writes : Option Share → Option Share → (number from : ℕ) (words : List ℕ) → Code → Type 0
Writes None new number from words code = (new ≡ None) × (code ≡ Blank)
Writes (Some s) new number from words code = (t : Share) × (new ≡ Some t) × try.Writes s t number from words code

-- the bytes of this many words are written, if there is such a chunk
abbrev pub TellsBytes : Option ℕ → (bytes bytes' : ℕ) → Code → Type 0
TellsBytes (Some words) bytes bytes' code = (code ≡ Done) × (bytes' ≡ 8 * words)
TellsBytes None bytes bytes' code = (code ≡ Stranger) × (bytes' ≡ bytes)

-- the bytes of the caller's chunk of this number; the handle stays as it is
abbrev pub Sizes : Option Share → Option Share → (number bytes bytes' : ℕ) → Code → Type 0
Sizes None new number bytes bytes' code = (new ≡ None) × (code ≡ Blank) × (bytes' ≡ bytes)
Sizes (Some s) new number bytes bytes' code = (new ≡ Some s) × TellsBytes (option_map (λ e. e.words) (chunk_of s number)) bytes bytes' code

-- the number of the caller's next chunk, from `from` on, is written
abbrev pub FindsOne : Share → (from number number' : ℕ) → Code → Type 0
FindsOne s from number number' Done = IsNext s from (Some number')
FindsOne s from number number' Absent = IsNext s from None × (number' ≡ number)
FindsOne s from number number' code = ⊥

-- the same of a handle, which stays as it is
abbrev pub Finds : Option Share → Option Share → (from number number' : ℕ) → Code → Type 0
Finds None new from number number' code = (new ≡ None) × (code ≡ Blank) × (number' ≡ number)
Finds (Some s) new from number number' code = (new ≡ Some s) × FindsOne s from number number' code

-- the bytes of all pages of the area are written
abbrev pub Measures : Option Share → Option Share → (bytes bytes' : ℕ) → Code → Type 0
Measures None new bytes bytes' code = (new ≡ None) × (code ≡ Blank) × (bytes' ≡ bytes)
Measures (Some s) new bytes bytes' code = (new ≡ Some s) × (code ≡ Done) × (bytes' ≡ page_bytes * (arc_value s.shared).pages)

-- the caller goes, if it has no chunk, and the handle is blank; or it has one, and stays
abbrev pub Closes : Option Share → Option Share → Code → Type 0
Closes None new code = (new ≡ None) × (code ≡ Blank)
Closes (Some s) new Done = (new ≡ None) × ((number : ℕ) → chunk_of s number ≡ None)
Closes (Some s) new StillIn = (new ≡ Some s) × ((number : ℕ) × IsSome (chunk_of s number))
Closes (Some s) new code = ⊥

-- a caller is put into a blank handle, if there is memory
abbrev pub Fills : Share → Option Share → Code → Type 0
Fills s new Done = new ≡ Some s
Fills s new NoMemory = new ≡ None
Fills s new code = ⊥

-- the handle of the first caller of a new area
abbrev pub Opens : ℕ → ℕ → Option Share → Option Share → Code → Type 0
Opens callers pages first first' Done = (first ≡ None) × ((s : Share) × (first' ≡ Some s) × IsFirst callers pages s)
Opens callers pages first first' InUse = IsSome first × (first' ≡ first)
Opens callers pages first first' code = IsRefused callers pages code × (first ≡ None) × (first' ≡ None)

-- a further caller: of a caller whose share was s and is t, by what came of it
abbrev pub SharesOne : Share → Share → Option Share → Code → Type 0
SharesOne s t next Done = (u : Share) × (next ≡ Some u) × IsFurther s t (Ok u)
SharesOne s t next NoMemory = (next ≡ None) × (IsFurther s t (Err NoMemory) ⊎ ((u : Share) × IsFurther s t (Ok u)))
SharesOne s t next code = (next ≡ None) × IsFurther s t (Err code)

-- the handle of a further caller, from that of this one
abbrev pub Shares : Option Share → Option Share → Option Share → Option Share → Code → Type 0
Shares from (Some u) from' next' code = (code ≡ InUse) × (from' ≡ from) × (next' ≡ Some u)
Shares None None from' next' code = (code ≡ Blank) × (from' ≡ None) × (next' ≡ None)
Shares (Some s) None from' next' code = (t : Share) × (from' ≡ Some t) × SharesOne s t next' code

-- Lists of chunks and keys that a table is asked for.
use Rattle.std.specs.Prelude.{ℕ, suc, ◌+◌, ◌≤◌, List, [], ◌∷◌, ◌++◌}
use Rattle.std.specs.List.Sorted.{IsPermutation}
use Rattle.shm_toc.specs.Table.{Entry, Table, rounded, free_bytes_of}

-- what a table may be asked for: a chunk of this many bytes, or an entry
pub data Request : Type 0 where
  Allocate : ℕ → Request
  Insert : Entry → Request

-- the sizes of the chunks that are asked for, in order
abbrev pub sizes_of : List Request → List ℕ
sizes_of [] = []
sizes_of (Allocate bytes ∷ requests) = bytes ∷ sizes_of requests
sizes_of (Insert entry ∷ requests) = sizes_of requests

-- how many entries are asked for
abbrev pub keys_of : List Request → ℕ
keys_of [] = 0
keys_of (Allocate bytes ∷ requests) = keys_of requests
keys_of (Insert entry ∷ requests) = suc (keys_of requests)

-- a table with nothing in it
abbrev pub empty_table : ℕ → ℕ → Table
empty_table magic total = record { magic = magic; total = total; taken = 0; entries = [] }

-- the table after a chunk was given
abbrev pub with_chunk : Table → ℕ → Table
with_chunk t bytes = record t { taken = t.taken + rounded bytes }

-- the table after an entry was put after the others
abbrev pub with_entry : Table → Entry → Table
with_entry t entry = record t { entries = t.entries ++ entry ∷ [] }

-- each request finds room, one after the other
abbrev pub Serves : Table → List Request → Type 0
Serves t [] = Unit {0}
Serves t (Allocate bytes ∷ requests) = (rounded bytes ≤ free_bytes_of t) × Serves (with_chunk t bytes) requests
Serves t (Insert entry ∷ requests) = (16 ≤ free_bytes_of t) × Serves (with_entry t entry) requests

-- whatever is asked for of chunks of these sizes and of this many keys, in any order, finds room
abbrev pub Provides : Table → List ℕ → ℕ → Type 0
Provides t chunks keys = (requests : List Request) (more : List ℕ) → IsPermutation (sizes_of requests ++ more) chunks → keys_of requests ≤ keys → Serves t requests

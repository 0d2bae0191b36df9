-- A table of the estimated size serves its chunks and keys.
use Rattle.std.proofs.Common.{ℕ, ◌+◌, ◌*◌, ◌≤◌, List, [], ◌∷◌, ◌++◌, length, sum_by, arith, length-append}
use Rattle.std.specs.List.Sorted.{IsPermutation}
use Rattle.std.proofs.lemmas.List.Sorted.{sum_by-IsPermutation}
use Rattle.std.proofs.lemmas.List.Sums.{sum_by-append, sum_by-cons}
use Rattle.shm_toc.specs.Table.{Table, rounded, estimated}
use Rattle.shm_toc.specs.Requests.{Request, Allocate, Insert, sizes_of, keys_of, Serves, empty_table, with_chunk, with_entry}

-- a table with room for what is asked serves it
serves : (requests : List Request) (t : Table) → 32 + 16 * length t.entries + t.taken + (16 * keys_of requests + sum_by rounded (sizes_of requests)) ≤ t.total → Serves t requests
serves [] t room = tt
serves (Allocate bytes ∷ requests) t room =
    let s = sum_by-cons rounded bytes (sizes_of requests) in
    (omega arith, serves requests (with_chunk t bytes) (omega arith))
serves (Insert entry ∷ requests) t room =
    let l = length-append t.entries (entry ∷ []) in
    (omega arith, serves requests (with_entry t entry) (omega arith))

at_least : (n : ℕ) → n ≤ rounded n
at_least n = omega arith

pub serves_all : (magic : ℕ) (chunks more : List ℕ) (keys : ℕ) (requests : List Request) → IsPermutation (sizes_of requests ++ more) chunks → keys_of requests ≤ keys
    → Serves (empty_table magic (estimated chunks keys)) requests
serves_all magic chunks more keys requests p few =
    let a = sum_by-IsPermutation rounded (sizes_of requests ++ more) chunks p in
    let b = sum_by-append rounded (sizes_of requests) more in
    let c = at_least (32 + 16 * keys + sum_by rounded chunks) in
    serves requests (empty_table magic (estimated chunks keys)) (omega arith)

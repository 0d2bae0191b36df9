-- For callers that fill a table: while it provides for what is still to come, no chunk and no new key is refused.
use Rattle.std.proofs.Common.{◌≡◌, ℕ, suc, ◌≤◌, List, [], ◌∷◌, ◌++◌, Option, Some, None, arith}
use Rattle.std.proofs.lemmas.List.Sorted.{IsPermutation-refl, IsPermutation-cons}
use Rattle.shm_toc.specs.Table.{Entry, Table, rounded, free_bytes_of, place_of}
use Rattle.shm_toc.specs.Requests.{Allocate, Insert, sizes_of, Provides, with_chunk, with_entry}
use Rattle.shm_toc.specs.Answers.{IsFull, IsRefused}
use Rattle.shm_toc.specs.declared.table.TocAnswer.{TocAnswer}
use Rattle.shm_toc.specs.declared.table.TocAnswer.TheVariants.{TocFull, KeyThere}

-- a chunk that is provided for has room, and what is still to come is provided for after it
pub provides_chunk : (t : Table) (bytes : ℕ) (chunks : List ℕ) (keys : ℕ) → Provides t (bytes ∷ chunks) keys → (rounded bytes ≤ free_bytes_of t) × Provides (with_chunk t bytes) chunks keys
provides_chunk t bytes chunks keys h = (
  (h (Allocate bytes ∷ []) chunks (IsPermutation-refl (bytes ∷ chunks)) (omega arith)).0,
  λ requests more p few. (h (Allocate bytes ∷ requests) more (IsPermutation-cons bytes (sizes_of requests ++ more) chunks p) few).1,
)

-- and so has an entry
pub provides_entry : (t : Table) (entry : Entry) (chunks : List ℕ) (keys : ℕ) → Provides t chunks (suc keys) → (16 ≤ free_bytes_of t) × Provides (with_entry t entry) chunks keys
provides_entry t entry chunks keys h = (
  (h (Insert entry ∷ []) chunks (IsPermutation-refl chunks) (omega arith)).0,
  λ requests more p few. (h (Insert entry ∷ requests) more p (omega (arith, few))).1,
)

-- what has room is not refused
pub never_full : (t : Table) (needed : ℕ) (answer : TocAnswer) → needed ≤ free_bytes_of t → IsFull t needed answer → ⊥
never_full t needed (TocFull wanted free) room f = omega (arith, f.0, f.1, f.2)
never_full t needed (KeyThere at) room f = f

not_there : (o : Option ℕ) (x : ℕ) → o ≡ None → o ≡ Some x → ⊥
not_there o x e f = cc

-- nor is a new key
pub never_refused : (t : Table) (key : ℕ) (answer : TocAnswer) → place_of t.entries key ≡ None → 16 ≤ free_bytes_of t → IsRefused t key answer → ⊥
never_refused t key (TocFull wanted free) new room r = never_full t 16 (TocFull wanted free) room r.1
never_refused t key (KeyThere at) new room r = not_there (place_of t.entries key) at new r

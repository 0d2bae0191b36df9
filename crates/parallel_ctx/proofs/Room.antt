-- Keys and bytes of the table of contents while a context is made.
use Rattle.std.proofs.Common.{◌≡◌, ◌≤◌, ◌<◌, ◌+◌, ◌-◌, ◌*◌, ◌++◌, ◌==◌, ℕ, suc, false, cond, List, [], ◌∷◌, Option, Some, refl, ap, ◌∙◌, arith, length-append}
use Rattle.shm_toc.specs.Table.{Entry, Table, free_bytes_of, place_of, rounded}
use Rattle.agg_table.specs.Shown.{part_size}
use Rattle.parallel_ctx.specs.Making.{IsMaking, with_queue, with_queues}
use Rattle.parallel_ctx.specs.declared.tokens.WorkerEnds.{WorkerEnds}

place_before : (es : List Entry) (e : Entry) (k : ℕ) → (e.key == k) ≡ false → place_of (es ++ e ∷ []) k ≡ place_of es k
place_before [] e k d = rw d refl
place_before (x ∷ es) e k d = ap (λ (o : Option ℕ). cond (x.key == k) (Some x.place) o) (place_before es e k d)

module _ (t : Table) where
  pub free_after : (key bytes at : ℕ) → free_bytes_of (with_queue t key bytes at) ≡ free_bytes_of t - rounded bytes - 16
  free_after key bytes at = omega (arith, length-append t.entries (record { key = key; place = at } ∷ []))

  pub making-queue : (key next bytes left at : ℕ) → IsMaking t next (rounded bytes + 16 + left) → next ≤ key → IsMaking (with_queue t key bytes at) (suc key) left
  making-queue key next bytes left at m h = record {
    magic = m.magic;
    unused = λ k l. place_before t.entries (record { key = key; place = at }) k (grind (arith, l)) ∙ m.unused k (omega (arith, l, h));
    room = omega (arith, free_after key bytes at, m.room);
  }

  pub making-from : (next next' bytes bytes' : ℕ) → IsMaking t next bytes → next ≤ next' → bytes' ≤ bytes → IsMaking t next' bytes'
  making-from next next' bytes bytes' m h l = record { magic = m.magic; unused = λ k i. m.unused k (omega (arith, h, i)); room = omega (arith, m.room, l) }

  pub other_key : (key bytes at k : ℕ) → (key == k) ≡ false → place_of (with_queue t key bytes at).entries k ≡ place_of t.entries k
  other_key key bytes at k d = place_before t.entries (record { key = key; place = at }) k d

  pub same_plan : (key bytes at : ℕ) → 1 < key → place_of (with_queue t key bytes at).entries 1 ≡ place_of t.entries 1
  same_plan key bytes at h = other_key key bytes at 1 (grind (arith, h))

pub making-table : (t : Table) (pages left at : ℕ) → IsMaking t 2 (8 * (part_size pages + 4) + left) → IsMaking (with_queue t 2 (8 * part_size pages) at) 16 left
making-table t pages left at m =
    let one = making-queue t 2 2 (8 * part_size pages) left at (making-from t 2 2 (8 * (part_size pages + 4) + left) (rounded (8 * part_size pages) + 16 + left) m (omega arith) (omega arith)) (omega arith) in
    making-from (with_queue t 2 (8 * part_size pages) at) 3 16 left left one (omega arith) (omega arith)

pub making-next : (t : Table) (number left : ℕ) (e : WorkerEnds) → IsMaking t (16 + 2 * number) (82016 + left) → IsMaking (with_queues t number e) (18 + 2 * number) left
making-next t number left e m =
    let one = making-queue t (16 + 2 * number) (16 + 2 * number) 16408 (65584 + left) e.errors.end.ring.base (making-from t (16 + 2 * number) (16 + 2 * number) (82016 + left) (rounded 16408 + 16 + (65584 + left)) m (omega arith) (omega arith)) (omega arith) in
    let first = with_queue t (16 + 2 * number) 16408 e.errors.end.ring.base in
    let two = making-queue first (17 + 2 * number) (suc (16 + 2 * number)) 65560 left e.tuples.end.ring.base (making-from first (suc (16 + 2 * number)) (suc (16 + 2 * number)) (65584 + left) (rounded 65560 + 16 + left) one (omega arith) (omega arith)) (omega arith) in
    making-from (with_queues t number e) (suc (17 + 2 * number)) (18 + 2 * number) left left two (omega arith) (omega arith)

pub plan_stays : (t : Table) (number : ℕ) (e : WorkerEnds) → place_of (with_queues t number e).entries 1 ≡ place_of t.entries 1
plan_stays t number e =
    same_plan (with_queue t (16 + 2 * number) 16408 e.errors.end.ring.base) (17 + 2 * number) 65560 e.tuples.end.ring.base (omega arith)
    ∙ same_plan t (16 + 2 * number) 16408 e.errors.end.ring.base (omega arith)

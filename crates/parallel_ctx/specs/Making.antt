-- A context while it is made.
use Rattle.std.specs.Prelude.{◌≡◌, ◌≤◌, ◌+◌, ◌*◌, ◌&&◌, ℕ, zero, suc, Bool, true, false, cond, leb, List, [], ◌∷◌, Option, Some, None}
use Rattle.agg_table.specs.Shown.{AreUnusedSeats, IsPart, callers_of, part_size}
use Rattle.agg_table.specs.declared.part.HashPart.{HashPart}
use Rattle.agg_table.specs.declared.part.HashSeat.{HashSeat}
use Rattle.dsa_area.specs.Shown.{pages_of}
use Rattle.par_model.specs.Plan.{Plan}
use Rattle.atomic_table.specs.Seated.{TableId}
use Rattle.scan_claim.specs.declared.claims.ClaimSeat.{ClaimSeat}
use Rattle.shm_toc.specs.Requests.{with_chunk, with_entry}
use Rattle.shm_toc.specs.Table.{Table, free_bytes_of, place_of}
use Rattle.parallel_ctx.specs.Tokens.{IsUnheard, IsUnused}
use Rattle.parallel_ctx.specs.declared.making.TheConstants.{LONGEST_NOTICE, LONGEST_TUPLE}
use Rattle.parallel_ctx.specs.declared.tokens.Hand.{Hand}
use Rattle.parallel_ctx.specs.declared.tokens.LeaderEnds.{LeaderEnds}
use Rattle.parallel_ctx.specs.declared.tokens.WorkerEnds.{WorkerEnds}

-- ---- the table of contents

-- it has the segment's magic number and no key from `next` on, and this many bytes are left
pub record IsMaking (t : Table) (next bytes : ℕ) : Type 0 where
  pub magic : t.magic ≡ 1601
  pub unused : (key : ℕ) → next ≤ key → place_of t.entries key ≡ None
  pub room : bytes ≤ free_bytes_of t

-- the table of contents after a ring of this many bytes was put under a key
abbrev pub with_queue : Table → ℕ → ℕ → ℕ → Table
with_queue t key bytes at = with_entry (with_chunk t bytes) (record { key = key; place = at })

-- the table of contents after the two rings of a worker were put in, of 2,048 and 8,192 words and three more each
abbrev pub with_queues : Table → ℕ → WorkerEnds → Table
with_queues t number e = with_queue (with_queue t (16 + 2 * number) 16408 e.errors.end.ring.base) (17 + 2 * number) 65560 e.tuples.end.ring.base

-- ---- the queues

-- a worker's ends of its two queues, not yet used
pub record AreUnused (region : TableId) (e : WorkerEnds) : Type 0 where
  pub errors : IsUnused region LONGEST_NOTICE e.errors
  pub tuples : IsUnused region LONGEST_TUPLE e.tuples

-- the lead's ends of them
pub record AreUnheardIn (region : TableId) (q : LeaderEnds) : Type 0 where
  pub errors : IsUnheard region LONGEST_NOTICE q.errors
  pub tuples : IsUnheard region LONGEST_TUPLE q.tuples

-- the ends of the same two rings
pub record AreRings (e : WorkerEnds) (q : LeaderEnds) : Type 0 where
  pub errors : e.errors.end.ring ≡ q.errors.end.ring
  pub tuples : e.tuples.end.ring ≡ q.tuples.end.ring

-- ---- the participants

-- the seat at the counter that a worker is given
abbrev pub claim_in : Hand → ClaimSeat
claim_in h = h.seats.claim

-- the ends that it is given
abbrev pub ends_in : Hand → WorkerEnds
ends_in h = h.ends

-- the passes of the table of groups that a worker is given
abbrev pub hash_in : Hand → Option HashSeat
hash_in h = h.seats.hash

-- this many of some passes, from the first on, one for each participant; none once they are used up
abbrev pub firsts : List HashSeat → ℕ → List (Option HashSeat)
firsts seats zero = []
firsts [] (suc n) = None ∷ firsts [] n
firsts (s ∷ seats) (suc n) = Some s ∷ firsts seats n

-- a table of groups was made with the passes of this many participants, or none was
abbrev pub AreDealt : TableId → ℕ → Option HashPart → List HashSeat → Type 0
AreDealt region callers None seats = seats ≡ []
AreDealt region callers (Some p) seats = IsPart region p × (callers_of p ≡ callers) × AreUnusedSeats p seats

-- there is a table exactly if the plan asks for it and the area has room for groups; the area has this many pages
abbrev pub HasTable : Plan → ℕ → Option HashPart → Type 0
HasTable plan pages None = (plan.hash && leb 16 pages) ≡ false
HasTable plan pages (Some p) = ((plan.hash && leb 16 pages) ≡ true) × (pages_of p.area ≡ pages)

-- the words that a table of groups takes of the segment, if there is one
abbrev pub hash_size : Bool → ℕ → ℕ
hash_size with_table pages = cond {A = ℕ} with_table (part_size pages + 4) 0

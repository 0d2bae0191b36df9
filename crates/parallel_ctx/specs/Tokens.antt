-- What a participant is given, and what stays of it.
use Rattle.std.specs.Prelude.{◌≡◌, ◌≤◌, ℕ, suc, List, [], ◌∷◌, All, Option, Some, None, length, map, false, true, ⊤}
use Rattle.std.specs.List.{AllZip}
use Rattle.agg_table.specs.Shown.{IsHashSeat, StaysSeated, callers_of as table_callers}
use Rattle.agg_table.specs.declared.part.HashPart.{HashPart}
use Rattle.atomic_table.specs.Seated.{TableId}
use Rattle.mq_handle.specs.Receives.{Incoming}
use Rattle.mq_ring.specs.Ends.{SendingEnd}
use Rattle.par_model.specs.Plan.{Plan}
use Rattle.scan_claim.specs.Shown.{AreSeats, Belongs, callers_of, draws_of, number_of}
use Rattle.plan_descriptor.specs.Planned.{HasPlan}
use Rattle.parallel_ctx.specs.declared.making.TheConstants.{LONGEST_NOTICE, LONGEST_TUPLE}
use Rattle.parallel_ctx.specs.declared.tokens.Hand.{Hand}
use Rattle.parallel_ctx.specs.declared.tokens.LeaderEnds.{LeaderEnds}
use Rattle.parallel_ctx.specs.declared.tokens.Seats.{Seats}
use Rattle.parallel_ctx.specs.declared.tokens.Shared.{Shared}
use Rattle.parallel_ctx.specs.declared.tokens.WorkerEnds.{WorkerEnds}

-- ---- unused tokens

-- a participant's seats: of this region, these claims and this table of groups, with the plan in the table of contents,
-- and nothing drawn
pub record AreSeated (plan : Plan) (w : Shared) (s : Seats) : Type 0 where
  pub here : s.toc.region ≡ w.region
  pub plan_is : HasPlan s.toc.words plan
  pub claim : Belongs w.claims s.claim
  pub number : number_of s.claim ≡ s.number
  pub drawn : draws_of s.claim ≡ []
  pub hash : IsHashSeat w.region s.number w.hash s.hash

-- a sending end that is open, on which nothing was put and no receiver was found gone, with its longest message
pub record IsUnused (region : TableId) (max : ℕ) (s : SendingEnd) : Type 0 where
  pub here : s.region ≡ region
  pub put : s.end.put ≡ []
  pub stays : s.end.gone ≡ false
  pub unseen : s.end.flag_value ≡ 0
  pub max_is : s.end.ring.max ≡ max

-- a receiving end that is open, from which nothing was taken
pub record IsUnheard (region : TableId) (max : ℕ) (q : Incoming) : Type 0 where
  pub here : q.region ≡ region
  pub taken : q.end.taken ≡ []
  pub stays : q.end.gone ≡ false
  pub max_is : q.end.ring.max ≡ max

-- a worker's tokens
pub record IsFresh (plan : Plan) (w : Shared) (s : Seats) (e : WorkerEnds) : Type 0 where
  pub seats : AreSeated plan w s
  pub errors : IsUnused w.region LONGEST_NOTICE e.errors
  pub tuples : IsUnused w.region LONGEST_TUPLE e.tuples

-- the lead's ends of a worker's queues
pub record AreUnheard (w : Shared) (q : LeaderEnds) : Type 0 where
  pub errors : IsUnheard w.region LONGEST_NOTICE q.errors
  pub tuples : IsUnheard w.region LONGEST_TUPLE q.tuples

-- the lead's tokens: there is a pair of ends for each other participant
pub record IsFreshLead (plan : Plan) (w : Shared) (s : Seats) (queues : List LeaderEnds) : Type 0 where
  pub seats : AreSeated plan w s
  pub unheard : All (AreUnheard w) queues
  pub count : callers_of w.claims ≡ suc (length queues)

-- ---- tokens in their places

-- the same seats, which may have drawn
pub record SameSeats (w : Shared) (s t : Seats) : Type 0 where
  pub number : t.number ≡ s.number
  pub toc : t.toc ≡ s.toc
  pub claim : Belongs w.claims t.claim
  pub same : number_of t.claim ≡ number_of s.claim
  pub hash : StaysSeated w.hash s.hash t.hash

-- the ends of the same rings, which may have sent
pub record SameEnds (e f : WorkerEnds) : Type 0 where
  pub errors_region : f.errors.region ≡ e.errors.region
  pub errors_ring : f.errors.end.ring ≡ e.errors.end.ring
  pub tuples_region : f.tuples.region ≡ e.tuples.region
  pub tuples_ring : f.tuples.end.ring ≡ e.tuples.end.ring

-- the ends of the same rings, which may have received
pub record SameQueues (q p : LeaderEnds) : Type 0 where
  pub errors_region : p.errors.region ≡ q.errors.region
  pub errors_ring : p.errors.end.ring ≡ q.errors.end.ring
  pub tuples_region : p.tuples.region ≡ q.tuples.region
  pub tuples_ring : p.tuples.end.ring ≡ q.tuples.end.ring

-- the lead's ends are of this region
pub record AreHere (region : TableId) (q : LeaderEnds) : Type 0 where
  pub errors : q.errors.region ≡ region
  pub tuples : q.tuples.region ≡ region

-- ---- ends that are detached

-- a worker's ends
pub record AreLeft (e : WorkerEnds) : Type 0 where
  pub errors : e.errors.end.gone ≡ true
  pub tuples : e.tuples.end.gone ≡ true

-- the lead's ends of a worker's queues
pub record AreLeftByLead (q : LeaderEnds) : Type 0 where
  pub errors : q.errors.end.gone ≡ true
  pub tuples : q.tuples.end.gone ≡ true

-- ---- the context

-- a worker's ends and the lead's are those of the same rings
pub record AreOneRing (h : Hand) (q : LeaderEnds) : Type 0 where
  pub errors : h.ends.errors.end.ring ≡ q.errors.end.ring
  pub tuples : h.ends.tuples.end.ring ≡ q.tuples.end.ring

-- a worker's number
abbrev pub number_in : Hand → ℕ
number_in h = h.seats.number

-- numbers that count from n on
abbrev pub AreNumbered : ℕ → List ℕ → Type 0
AreNumbered n [] = ⊤
AreNumbered n (k ∷ ks) = (k ≡ n) × AreNumbered (suc n) ks

-- the table of groups has this many participants
abbrev pub HasCallers : ℕ → Option HashPart → Type 0
HasCallers n None = Unit {0}
HasCallers n (Some p) = table_callers p ≡ n

-- what contracts see of a context
pub record Prepared : Type 0 where
  pub plan : Plan
  pub shared : Shared
  pub leader : Seats
  pub hands : List Hand
  pub receivers : List LeaderEnds

-- all tokens are there and unused, the workers' in order of their numbers
pub record IsPrepared (p : Prepared) : Type 0 where
  pub few : length p.hands ≤ 64
  pub leader : AreSeated p.plan p.shared p.leader
  pub hands : All (λ h. IsFresh p.plan p.shared h.seats h.ends) p.hands
  pub numbers : AreNumbered 1 (map number_in p.hands)
  pub receivers : All (AreUnheard p.shared) p.receivers
  pub rings : AllZip AreOneRing p.hands p.receivers
  pub seats : AreSeats p.shared.claims (p.leader.claim ∷ map (λ (h : Hand). h.seats.claim) p.hands)
  pub hash : HasCallers (suc (length p.hands)) p.shared.hash

-- What comes back from a worker's thread.
use Rattle.std.specs.Prelude.{◌≡◌, ℕ, List, [], ◌∷◌, Option, Some, None, MatchOption}
use Rattle.agg_table.specs.declared.part.HashSeat.{HashSeat}
use Rattle.par_model.specs.Plan.{Plan}
use Rattle.scan_claim.specs.Shown.{blocks_of}
use Rattle.plan_descriptor.specs.Planned.{HasPlan}
use Rattle.parallel_ctx.specs.declared.tokens.Shared.{Shared}
use Rattle.parallel_ctx.specs.declared.tokens.Hand.{Hand}
use Rattle.parallel_ctx.specs.declared.start.Back.{Back}
use Rattle.parallel_ctx.specs.declared.start.Brings.{Brings}
use Rattle.parallel_ctx.specs.declared.start.Placed.{Placed}
use Rattle.parallel_ctx.specs.declared.start.Placed.TheVariants.{Running, Here}
use Rattle.parallel_ctx.specs.declared.tokens.Seats.{Seats}
use Rattle.parallel_ctx.specs.declared.tokens.LeaderEnds.{LeaderEnds}
use Rattle.atomic_table.specs.Seated.{TableId}
use Rattle.scan_claim.specs.declared.claims.ClaimSeat.{ClaimSeat}
use Rattle.parallel_ctx.specs.declared.home.Returned.{Returned}
use Rattle.parallel_ctx.specs.Queues.{IsQueue}
use Rattle.parallel_ctx.specs.Accounts.{Account, IsIdle, account}
use Rattle.parallel_ctx.specs.Tokens.{AreHere, AreLeft, AreLeftByLead, IsFresh, IsFreshLead, SameEnds, SameSeats}

-- a worker may work with these tokens: they are fresh, and their plan is one that it can do
abbrev pub CanWork : (Plan → ℕ → Type 0) → Shared → Hand → Type 0
CanWork asks w h = (plan : Plan) × IsFresh plan w h.seats h.ends × asks plan (blocks_of w.claims)

-- the lead may lead with these tokens: they are fresh, and their plan is one that it can lead
abbrev pub CanLead : (Plan → ℕ → Type 0) → Shared → Seats → List LeaderEnds → Type 0
CanLead asks w s qs = (plan : Plan) × IsFreshLead plan w s qs × asks plan (blocks_of w.claims)

module _ {E : Type 0} (did : Plan → ℕ → Account → E → Type 0) where
  -- The same tokens are in their places, and its ends are detached. Nothing was done if the worker did not start, and
  -- else it kept its promise
  pub record Returns (w : Shared) (h : Hand) (b : Back E) : Type 0 where
    pub seats : SameSeats w h.seats b.hand.seats
    pub ends : SameEnds h.ends b.hand.ends
    pub left : AreLeft b.hand.ends
    pub done : (plan : Plan) → HasPlan h.seats.toc.words plan → MatchOption b.end (IsIdle (account b.hand.seats b.hand.ends)) (λ e. did plan (blocks_of w.claims) (account b.hand.seats b.hand.ends) e)

module _ {W E : Type 0} (did : W → Plan → ℕ → Account → E → Type 0) where
  -- what a thread's result has to be
  abbrev pub Keeps : Brings W E → Back E → Type 0
  Keeps p b = Returns (did p.worker.value) p.shared.value p.hand.value b

  -- p brings the tokens of h home
  abbrev pub Carries : W → Shared → Hand → Placed W E → Type 0
  Carries w s h (Running c) = (c.promise.worker.value ≡ w) × (c.promise.shared.value ≡ s) × (c.promise.hand.value ≡ h)
  Carries w s h (Here b) = Returns (did w) s h b

  -- b is what p brought
  abbrev pub Brought : Placed W E → Back E → Type 0
  Brought (Running c) b = Keeps c.promise b
  Brought (Here x) b = b ≡ x

-- the lead's ends are those of the rings of a worker that came back, and all four are detached
pub record CanSettle {E : Type 0} (region : TableId) (b : Back E) (q : LeaderEnds) : Type 0 where
  pub errors_here : b.hand.ends.errors.region ≡ region
  pub tuples_here : b.hand.ends.tuples.region ≡ region
  pub queues_here : AreHere region q
  pub ends_left : AreLeft b.hand.ends
  pub queues_left : AreLeftByLead q
  pub errors_ring : b.hand.ends.errors.end.ring ≡ q.errors.end.ring
  pub tuples_ring : b.hand.ends.tuples.end.ring ≡ q.tuples.end.ring

-- r is what is left of b
pub record IsReturned {E : Type 0} (b : Back E) (r : Returned E) : Type 0 where
  pub number : r.number ≡ b.hand.seats.number
  pub end : r.end ≡ b.end
  pub errors : r.errors.sender ≡ b.hand.ends.errors.end
  pub tuples : r.tuples.sender ≡ b.hand.ends.tuples.end
  pub errors_queue : IsQueue r.errors
  pub tuples_queue : IsQueue r.tuples

-- the seat of the claims that a worker brought back
abbrev pub claim_of : {E : Type 0} → Back E → ClaimSeat
claim_of b = b.hand.seats.claim

-- the passes of the table of groups that a worker brought back
abbrev pub hash_of : {E : Type 0} → Back E → Option HashSeat
hash_of b = b.hand.seats.hash

-- those passes that are there, in order
abbrev pub there : List (Option HashSeat) → List HashSeat
there [] = []
there (None ∷ os) = there os
there (Some s ∷ os) = s ∷ there os

-- What a participant has done, by its lists: the numbers that it drew, its turns at the table of groups, and the
-- messages of its queues.
use Rattle.std.specs.Prelude.{◌≡◌, ◌&&◌, ◌==◌, ℕ, zero, suc, Bool, List, [], ◌∷◌, Option, Some, None, length, option_map}
use Rattle.agg_table.specs.Calls.{Use}
use Rattle.dshash_parts.specs.Done.{PageEntry}
use Rattle.agg_table.specs.Shown.{use_in}
use Rattle.dsa_area.specs.Shown.{pages_mine}
use Rattle.dsa_area.specs.declared.area.AreaPass.{AreaPass}
use Rattle.dshash_parts.specs.Ending.{whole_of as history_of}
use Rattle.lock_book.specs.History.{calls_by}
use Rattle.mq_handle.specs.Messages.{whole_of}
use Rattle.ring_rule.specs.Ring.{Receiving, Sending}
use Rattle.scan_claim.specs.Shown.{draws_of}
use Rattle.parallel_ctx.specs.declared.home.Finished.{Finished}
use Rattle.parallel_ctx.specs.declared.home.Returned.{Returned}
use Rattle.parallel_ctx.specs.declared.tokens.LeaderEnds.{LeaderEnds}
use Rattle.parallel_ctx.specs.declared.tokens.Seats.{Seats}
use Rattle.parallel_ctx.specs.declared.tokens.WorkerEnds.{WorkerEnds}

-- ---- workers

-- the calls at the pages of the area, by the pass of this number
abbrev pub pages_by : List AreaPass → ℕ → List PageEntry
pages_by [] n = []
pages_by (p ∷ ps) zero = pages_mine p
pages_by (p ∷ ps) (suc n) = pages_by ps n

-- what the participant of this number did with the table of groups, by what came home
abbrev pub use_by : {E : Type 0} → Finished E → ℕ → Option Use
use_by f n = option_map (λ c. record { turns = λ i. calls_by n (history_of c i); pages = pages_by f.areas.items n }) f.table

-- the numbers that a worker drew, what it did with the table of groups, the messages that it sent on its two queues,
-- and whether a send on each found that its receiver is gone
pub record Account : Type 0 where
  pub draws : List ℕ
  pub used : Option Use
  pub errors : List (List ℕ)
  pub tuples : List (List ℕ)
  pub errors_gone : Bool
  pub tuples_gone : Bool

-- the table was not used
abbrev pub IsUnusedTable : Option Use → Type 0
IsUnusedTable None = Unit {0}
IsUnusedTable (Some u) = (i : ℕ) → u.turns i ≡ []

-- a worker that did nothing
pub record IsIdle (a : Account) : Type 0 where
  pub draws : a.draws ≡ []
  pub used : IsUnusedTable a.used
  pub errors : a.errors ≡ []
  pub tuples : a.tuples ≡ []

-- what a worker that drew these numbers did, by its ends
abbrev pub account_in : List ℕ → Option Use → Sending → Sending → Account
account_in draws used errors tuples =
    record { draws = draws; used = used; errors = whole_of errors.put; tuples = whole_of tuples.put; errors_gone = errors.flag_value == 1; tuples_gone = tuples.flag_value == 1 }

-- what a worker did with its tokens
abbrev pub account : Seats → WorkerEnds → Account
account s e = account_in (draws_of s.claim) (use_in s.hash) e.errors.end e.tuples.end

-- what a worker did that came home, by what each did with the table of groups
abbrev pub account_of : {E : Type 0} → (ℕ → Option Use) → List ℕ → Returned E → Account
account_of uses draws r = account_in draws (uses r.number) r.errors.sender r.tuples.sender

-- ---- the lead

-- the receiver has seen all that will ever be sent, and has taken it
abbrev pub is_over : Receiving → Bool
is_over q = q.final && (length q.taken == q.avail)

-- the messages that the lead took off a worker's two queues, and whether there are no more
pub record Heard : Type 0 where
  pub errors : List (List ℕ)
  pub tuples : List (List ℕ)
  pub errors_over : Bool
  pub tuples_over : Bool

-- what the lead took, by its ends
abbrev pub heard_in : Receiving → Receiving → Heard
heard_in errors tuples = record { errors = whole_of errors.taken; tuples = whole_of tuples.taken; errors_over = is_over errors; tuples_over = is_over tuples }

-- what it took of a worker
abbrev pub heard : LeaderEnds → Heard
heard q = heard_in q.errors.end q.tuples.end

-- what it took of a worker that came home
abbrev pub heard_of : {E : Type 0} → Returned E → Heard
heard_of r = heard_in r.errors.receiver r.tuples.receiver

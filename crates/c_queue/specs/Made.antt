-- What a new queue is, and when there is none.
use Rattle.std.specs.Prelude.{◌≡◌, ◌≢◌, ℕ, ◌^◌, ◌<◌, ◌≤◌, ◌⊎◌, None}
use Rattle.ring_rule.specs.Ends.{first_receiving}
use Rattle.mq_handle.specs.Held.{IsUnsent}
use Rattle.mq_handle.specs.Receives.{Incoming}
use Rattle.c_queue.specs.Sides.{Outgoing, IsOneQueue}
use Rattle.c_queue.specs.declared.code.Code.{Code}
use Rattle.c_queue.specs.declared.code.Code.TheVariants.{NoMemory, BadSize}

-- both sides of one queue of that size, by which nothing was sent or received
pub record IsQueue (words max : ℕ) (o : Outgoing) (q : Incoming) : Type 0 where
  pub one : IsOneQueue o q
  pub size : (o.sender.end.ring.size ≡ words) × (o.sender.end.ring.max ≡ max)
  pub unsent : IsUnsent o.sender.end
  pub fresh : o.begun ≡ None
  pub unread : q.end ≡ first_receiving q.end.ring

-- the words are no power of two up to 2^20, or a message may be longer than 2^20 bytes. NoMemory has no stated cause
abbrev pub IsRefused : ℕ → ℕ → Code → Type 0
IsRefused words max BadSize = (2 ^ 20 < max) ⊎ ((e : ℕ) → e ≤ 20 → words ≢ 2 ^ e)
IsRefused words max NoMemory = Unit {0}
IsRefused words max code = ⊥

-- What a contract sees of a barrier and of its passes.
use Rattle.std.specs.Prelude.{◌≡◌, ℕ, true, false, List, [], ◌∷◌, ◌++◌, replicate, length}
use Rattle.std.specs.Prelude.{Result, Ok, Err}
use mathlib.Core.Option.{some}
use lib.ListN.{get_elem?}
use Rattle.lock_book.specs.declared.view.Entry.{Entry}
use Rattle.lock_book.specs.History.{last_of}
use Rattle.lock_book.specs.Told.{Makes, MakesAll}
use Rattle.lock_book.specs.Shown.{Belongs as BelongsToShelf, Missed as MissedShelf, callers_of as callers_of_shelf, mine_of, number_of as number_of_pass, seen_of}
use Rattle.par_barrier.specs.declared.history.BarrierState.{BarrierState}
use Rattle.par_barrier.specs.declared.history.BarrierCall.{BarrierCall}
use Rattle.par_barrier.specs.declared.history.BarrierCall.TheVariants.{Arrive, Attach, Look}
use Rattle.par_barrier.specs.declared.history.BarrierReply.{BarrierReply}
use Rattle.par_barrier.specs.declared.history.BarrierReply.TheVariants as reply
use Rattle.par_barrier.specs.declared.answers.Arrival.{Arrival}
use Rattle.par_barrier.specs.declared.answers.Arrival.TheVariants as arrival
use Rattle.par_barrier.specs.declared.answers.Arrived.{Arrived}
use Rattle.par_barrier.specs.declared.answers.Left.{Left}
use Rattle.par_barrier.specs.declared.answers.Departure.{Departure}
use Rattle.par_barrier.specs.declared.answers.Departure.TheVariants as departure
use Rattle.par_barrier.specs.declared.answers.BarrierAnswer.{BarrierAnswer}
use Rattle.par_barrier.specs.declared.answers.BarrierAnswer.TheVariants as refused
use Rattle.par_barrier.specs.declared.barrier.Barrier.{Barrier}
use Rattle.par_barrier.specs.declared.barrier.BarrierPass.{BarrierPass}
use Rattle.par_barrier.specs.Parties.{is_among, nobody}
use Rattle.par_barrier.specs.Legal.{BarrierLegal}

-- a list of calls with their replies and the states after them
abbrev pub History : Type 0
History = List (Entry BarrierState BarrierCall BarrierReply)

-- how many callers the barrier has
abbrev pub callers_of : Barrier → ℕ
callers_of b = callers_of_shelf b.shelf

-- the number of the pass's caller
abbrev pub number_of : BarrierPass → ℕ
number_of p = number_of_pass p.pass

-- the history of the barrier, as far as the pass has seen it
abbrev pub history_of : BarrierPass → History
history_of p = seen_of p.pass 0

-- the pass's own calls
abbrev pub own_of : BarrierPass → History
own_of p = mine_of p.pass 0

-- the pass is one of this barrier's; then the history that it has seen is legal from `nobody` on, and has the pass's
-- own calls in order, each once, and no other caller's under its number
abbrev pub Belongs : Barrier → BarrierPass → Type 0
Belongs b p = BelongsToShelf b.shelf p.pass

-- the passes of all callers, in order of their numbers
pub record AreAll (b : Barrier) (passes : List BarrierPass) : Type 0 where
  pub count : length passes ≡ callers_of b
  pub each : (k : ℕ) (p : BarrierPass) → get_elem? passes k ≡ some p → Belongs b p × (number_of p ≡ k)

-- what one call c with the reply r made of the pass: the history seen then begins with what was seen before and ends
-- with this call, legal at its place, and the pass's own calls have this one more
abbrev pub Called : BarrierPass → BarrierPass → BarrierCall → BarrierReply → Type 0
Called old new c r = Makes BarrierLegal nobody (number_of old) (history_of old) (own_of old) (history_of new) (own_of new) c r

-- the same of some calls, one after another
abbrev pub CalledAll : BarrierPass → BarrierPass → List (BarrierCall × BarrierReply) → Type 0
CalledAll old new calls = MakesAll BarrierLegal nobody (number_of old) (history_of old) (own_of old) (history_of new) (own_of new) calls

-- a call that would not wait found another caller at the barrier: the pass counts it, and has seen nothing new
abbrev pub Missed : BarrierPass → BarrierPass → Type 0
Missed old new = MissedShelf old.pass new.pass

-- the reply of a refused call
abbrev pub refusal_reply : BarrierAnswer → BarrierReply
refusal_reply (refused.AlreadyIn p) = reply.AlreadyIn p
refusal_reply (refused.NotIn p) = reply.NotIn p
refusal_reply (refused.Twice p) = reply.Twice p

-- the reply that an answer of `attach` represents
abbrev pub attach_reply : Result ℕ BarrierAnswer → BarrierReply
attach_reply (Ok p) = reply.Attached p
attach_reply (Err why) = refusal_reply why

-- one call to attach, whatever it was answered
abbrev pub HasAttached : BarrierPass → BarrierPass → Type 0
HasAttached old new = (answer : Result ℕ BarrierAnswer) × Called old new Attach (attach_reply answer)

-- the pass's caller takes part, in the state that the pass saw last
abbrev pub TakesPart : BarrierPass → Type 0
TakesPart p = is_among (number_of p) (last_of nobody (history_of p)).attached ≡ true

-- the reply that an answer of `arrive` or `look` represents
abbrev pub arrival_reply : Result Arrival BarrierAnswer → BarrierReply
arrival_reply (Ok arrival.Waiting) = reply.Waiting
arrival_reply (Ok (arrival.Released p e)) = reply.Released p e
arrival_reply (Err why) = refusal_reply why

-- the reply that an answer of `detach` or `arrive_and_detach` represents
abbrev pub detach_reply : Result Left BarrierAnswer → BarrierReply
detach_reply (Ok left) = reply.Left left.phase left.last
detach_reply (Err why) = refusal_reply why

-- the reply that an answer of `arrive_and_detach_except_last` represents
abbrev pub departure_reply : Result Departure BarrierAnswer → BarrierReply
departure_reply (Ok (departure.Left p)) = reply.Left p false
departure_reply (Ok (departure.Last p)) = reply.Released p true
departure_reply (Err why) = refusal_reply why

-- the reply that an answer of `arrive_and_wait` represents: that of its last call
abbrev pub arrived_reply : Result Arrived BarrierAnswer → BarrierReply
arrived_reply (Ok arrived) = reply.Released arrived.phase arrived.elected
arrived_reply (Err why) = refusal_reply why

-- an arrival that has to wait, this many looks that have to wait too, and the look with the reply r
abbrev pub waited : ℕ → BarrierReply → List (BarrierCall × BarrierReply)
waited looks r = (Arrive, reply.Waiting) ∷ replicate looks (Look, reply.Waiting) ++ (Look, r) ∷ []

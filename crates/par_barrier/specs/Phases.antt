-- The phases of a barrier's history.
use Rattle.std.specs.Prelude.{◌≡◌, ◌⊎◌, ℕ, ◌+◌, ◌%◌, ◌^◌, ◌==◌, Bool, not, ◌&&◌, true, false, cond, List, [], ◌∷◌, ◌++◌, Option, Some, None}
use Rattle.std.specs.List.{list_any}
use Rattle.lock_book.specs.declared.view.Entry.{Entry}
use Rattle.lock_book.specs.History.{last_of, IsLegal}
use Rattle.par_barrier.specs.declared.history.BarrierState.{BarrierState}
use Rattle.par_barrier.specs.declared.history.BarrierCall.{BarrierCall}
use Rattle.par_barrier.specs.declared.history.BarrierCall.TheVariants.{Attach, Arrive, Look, Detach, ArriveAndDetach, ArriveAndDetachExceptLast}
use Rattle.par_barrier.specs.declared.history.BarrierReply.{BarrierReply}
use Rattle.par_barrier.specs.declared.history.BarrierReply.TheVariants.{Attached, Waiting, Released, Left, AlreadyIn, NotIn, Twice}
use Rattle.par_barrier.specs.Parties.{is_among, nobody}
use Rattle.par_barrier.specs.Legal.{BarrierLegal}

-- a call with its reply and the state after it
abbrev pub Step : Type 0
Step = Entry BarrierState BarrierCall BarrierReply

-- the history is one of a barrier that nobody took part in when it was made
abbrev pub IsHistory : List Step → Type 0
IsHistory es = IsLegal BarrierLegal nobody es

-- whether the call ended the phase of the state before it
abbrev pub is_end : BarrierState → Step → Bool
is_end s e = not (e.after.phase == s.phase)

-- how many calls of a history that begins in s ended a phase
abbrev pub ends_in : BarrierState → List Step → ℕ
ends_in s [] = 0
ends_in s (e ∷ es) = cond (is_end s e) 1 0 + ends_in e.after es

-- the calls after the last end of a phase, if those of the first list came before in the same phase
abbrev pub this_phase : BarrierState → List Step → List Step → List Step
this_phase s before [] = before
this_phase s before (e ∷ es) = this_phase e.after (cond (is_end s e) [] (before ++ e ∷ [])) es

-- the phase that a reply has
abbrev pub phase_told : BarrierReply → Option ℕ
phase_told (Attached p) = Some p
phase_told Waiting = None
phase_told (Released p elected) = Some p
phase_told (Left p last) = Some p
phase_told (AlreadyIn p) = Some p
phase_told (NotIn p) = Some p
phase_told (Twice p) = Some p

-- whether a call says that its caller has arrived
abbrev pub is_arrival : BarrierCall → Bool
is_arrival Attach = false
is_arrival Arrive = true
is_arrival Look = false
is_arrival Detach = false
is_arrival ArriveAndDetach = true
is_arrival ArriveAndDetachExceptLast = true

-- the caller n arrived by this call, and takes part after it
abbrev pub ArrivesBy : ℕ → Step → Type 0
ArrivesBy n e = (e.by ≡ n) × (is_arrival e.call ≡ true) × ((e.reply ≡ Waiting) ⊎ ((p : ℕ) × (e.reply ≡ Released p true)))

-- whether a reply says that the caller takes part no more
abbrev pub is_left : BarrierReply → Bool
is_left (Attached p) = false
is_left Waiting = false
is_left (Released p elected) = false
is_left (Left p last) = true
is_left (AlreadyIn p) = false
is_left (NotIn p) = false
is_left (Twice p) = false

-- whether the call is the caller's, and it left by it
abbrev pub leaves_by : ℕ → Step → Bool
leaves_by n e = (e.by == n) && is_left e.reply

-- among these calls of one phase there is one by which n arrived, and n has not left since
pub record HasArrived (n : ℕ) (phase : List Step) : Type 0 where
  pub before : List Step
  pub arrival : Step
  pub since : List Step
  pub stands : phase ≡ before ++ arrival ∷ since
  pub arrives : ArrivesBy n arrival
  pub stays : list_any (leaves_by n) since ≡ false

-- The phase in a call's reply is the number of ends up to it: no call of a later phase comes before the end of the one
-- before
abbrev pub TellsPhases : Type 0
TellsPhases = (front : List Step) (e : Step) (p : ℕ) → IsHistory (front ++ e ∷ []) → phase_told e.reply ≡ Some p → p ≡ ends_in nobody (front ++ e ∷ []) % 2 ^ 64

-- The end of a phase elects m, which takes part at that moment and has arrived in that phase
pub record IsElectedAt (m : ℕ) (front : List Step) (e : Step) : Type 0 where
  pub elected : e.after.elected ≡ Some m
  pub takes_part : is_among m e.after.attached ≡ true
  pub came : HasArrived m (this_phase nobody [] front ++ e ∷ [])

-- the end of a phase after which nobody takes part: whoever took part last has arrived and left at once
abbrev pub IsAbandonedAt : Step → Type 0
IsAbandonedAt e = (e.call ≡ ArriveAndDetach) × (e.after.attached ≡ []) × (e.after.elected ≡ None)

-- Each end of a phase elects one caller, unless nobody is left
abbrev pub ElectsOne : Type 0
ElectsOne = (front : List Step) (e : Step) → IsHistory (front ++ e ∷ []) → is_end (last_of nobody front) e ≡ true → ((m : ℕ) × IsElectedAt m front e) ⊎ IsAbandonedAt e

-- Until the next end no other caller gets the reply that it is elected
abbrev pub TellsElected : Type 0
TellsElected = (front mid : List Step) (e x : Step) (p : ℕ) → IsHistory (front ++ e ∷ (mid ++ x ∷ [])) → ends_in e.after (mid ++ x ∷ []) ≡ 0 → x.reply ≡ Released p true → e.after.elected ≡ Some x.by

-- A caller that has arrived, and has not left since, cannot arrive again before the phase ends
abbrev pub ArrivesOnce : Type 0
ArrivesOnce = (front mid : List Step) (x y : Step) → IsHistory (front ++ x ∷ (mid ++ y ∷ [])) → x.call ≡ Arrive → x.reply ≡ Waiting → ends_in x.after mid ≡ 0 → list_any (leaves_by x.by) mid ≡ false → y.by ≡ x.by → is_arrival y.call ≡ true → y.reply ≡ Twice x.after.phase

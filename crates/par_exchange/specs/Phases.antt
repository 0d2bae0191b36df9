-- The phases of an exchange's history. A phase ends when a party gets what all have brought.
use Rattle.std.specs.Prelude.{◌≡◌, ℕ, ◌<◌, ◌==◌, Bool, true, false, not, ◌&&◌, cond, List, [], ◌∷◌, ◌++◌, length, Option, Some, None, is_some, option_to_list}
use Rattle.std.specs.List.{list_any}
use Rattle.lock_book.specs.declared.view.Entry.{Entry}
use Rattle.lock_book.specs.History.{IsLegal}
use Rattle.par_exchange.specs.declared.history.ExchangeState.{ExchangeState}
use Rattle.par_exchange.specs.declared.history.ExchangeCall.{ExchangeCall}
use Rattle.par_exchange.specs.declared.history.ExchangeCall.TheVariants.{Bring, Give, Leave, Take}
use Rattle.par_exchange.specs.declared.history.ExchangeReply.{ExchangeReply}
use Rattle.par_exchange.specs.declared.history.ExchangeReply.TheVariants.{Waiting, Collected, Given, Taken, Nothing, Refused, Left, Leaving, Gone}
use Rattle.par_exchange.specs.declared.history.PartyStage.{PartyStage}
use Rattle.par_exchange.specs.declared.history.PartyStage.TheVariants as stage
use Rattle.par_exchange.specs.States.{at, fresh, who}
use Rattle.par_exchange.specs.Legal.{ExchangeLegal}

-- a call with its reply and the state after it
abbrev pub Step : Type 0 → Type 0
Step T = Entry (ExchangeState T) (ExchangeCall T) (ExchangeReply T)

module _ {T : Type 0} where
  -- the history is one of an exchange of the given number of parties, to which nothing was brought when it was made
  abbrev pub IsHistory : ℕ → List (Step T) → Type 0
  IsHistory parties es = IsLegal ExchangeLegal (fresh parties) es

  -- what the elected got, if a call with this reply ended a phase
  abbrev pub ends_with : ExchangeReply T → Option (List (Option T))
  ends_with Waiting = None
  ends_with (Collected ps) = Some ps
  ends_with Given = None
  ends_with (Taken x) = None
  ends_with Nothing = None
  ends_with Refused = None
  ends_with (Left last) = None
  ends_with (Leaving ps) = Some ps
  ends_with Gone = None

  -- whether a call with this reply ended a phase
  abbrev pub is_end : ExchangeReply T → Bool
  is_end r = is_some (ends_with r)

  -- the calls after the last end of a phase, if those of the first list came before in the same phase
  abbrev pub this_phase : List (Step T) → List (Step T) → List (Step T)
  this_phase before [] = before
  this_phase before (e ∷ es) = this_phase (cond (is_end e.reply) [] (before ++ e ∷ [])) es

  -- whether the tokens of a call with this reply came back
  abbrev pub is_refused : ExchangeReply T → Bool
  is_refused Waiting = false
  is_refused (Collected ps) = false
  is_refused Given = false
  is_refused (Taken x) = false
  is_refused Nothing = false
  is_refused Refused = true
  is_refused (Left last) = false
  is_refused (Leaving ps) = false
  is_refused Gone = false

  -- whether the caller has left by a call with this reply
  abbrev pub is_leave : ExchangeReply T → Bool
  is_leave Waiting = false
  is_leave (Collected ps) = false
  is_leave Given = false
  is_leave (Taken x) = false
  is_leave Nothing = false
  is_leave Refused = false
  is_leave (Left last) = true
  is_leave (Leaving ps) = true
  is_leave Gone = false

  -- whether the party n has left by one of these calls
  abbrev pub has_left : ℕ → List (Step T) → Bool
  has_left n es = list_any (λ e. (e.by == n) && is_leave e.reply) es

  -- the token that a call brought, if it brought one
  abbrev pub brought_of : ExchangeCall T → ExchangeReply T → List T
  brought_of (Bring x) r = cond (is_refused r) [] (x ∷ [])
  brought_of (Give ps) r = []
  brought_of Take r = []
  brought_of Leave r = []

  -- the tokens that a call gave, if it gave some
  abbrev pub given_of : ExchangeCall T → ExchangeReply T → List (List (Option T))
  given_of (Bring x) r = []
  given_of (Give ps) r = cond (is_refused r) [] (ps ∷ [])
  given_of Take r = []
  given_of Leave r = []

  -- the token that a call took, if it took one
  abbrev pub taken_of : ExchangeReply T → List T
  taken_of Waiting = []
  taken_of (Collected ps) = []
  taken_of Given = []
  taken_of (Taken x) = x ∷ []
  taken_of Nothing = []
  taken_of Refused = []
  taken_of (Left last) = []
  taken_of (Leaving ps) = []
  taken_of Gone = []

  -- all tokens that the party n brought by these calls
  abbrev pub brought_by : ℕ → List (Step T) → List T
  brought_by n [] = []
  brought_by n (e ∷ es) = cond (e.by == n) (brought_of e.call e.reply) [] ++ brought_by n es

  -- all tokens that the party n took by these calls
  abbrev pub taken_by : ℕ → List (Step T) → List T
  taken_by n [] = []
  taken_by n (e ∷ es) = cond (e.by == n) (taken_of e.reply) [] ++ taken_by n es

  -- each time that tokens were given by these calls, what was given to the parties, in order
  abbrev pub given_in : List (Step T) → List (List (Option T))
  given_in [] = []
  given_in (e ∷ es) = given_of e.call e.reply ++ given_in es

  -- What the elected gets at the end of a phase: all that each party brought in the phase, one token or none. By then
  -- each party has taken what was given to it in the phase, once
  pub record IsCollected (parties : ℕ) (phase : List (Step T)) (places : List (Option T)) : Type 0 where
    pub count : length places ≡ parties
    pub brought : (k : ℕ) → brought_by k phase ≡ option_to_list (at places k)
    pub taken : (given : List (Option T)) → given_in phase ≡ given ∷ [] → (k : ℕ) → taken_by k phase ≡ option_to_list (at given k)

  -- What the party n takes: tokens were given once in the phase, this is the one that was given to n, and n took none
  -- before
  pub record IsHandedOut (n : ℕ) (phase : List (Step T)) (x : T) : Type 0 where
    pub places : List (Option T)
    pub given : given_in phase ≡ places ∷ []
    pub own : at places n ≡ Some x
    pub once : taken_by n phase ≡ []

  -- the place of each party has a token, unless the party has left by these calls
  abbrev pub IsOfAllLeft : ℕ → List (Step T) → List (Option T) → Type 0
  IsOfAllLeft parties es places = (k : ℕ) → k < parties → is_some (at places k) ≡ not (has_left k es)

-- In each phase, what the parties brought is what the elected got, each once
abbrev pub GathersEach : Type 0 → Type 0
GathersEach T = (parties : ℕ) (front : List (Step T)) (e : Step T) (places : List (Option T)) → IsHistory parties (front ++ e ∷ []) → ends_with e.reply ≡ Some places → IsCollected parties (this_phase [] front ++ e ∷ []) places

-- What a party takes is what was given to it in the phase, once
abbrev pub GivesEach : Type 0 → Type 0
GivesEach T = (parties : ℕ) (front : List (Step T)) (e : Step T) (x : T) → IsHistory parties (front ++ e ∷ []) → e.reply ≡ Taken x → IsHandedOut e.by (this_phase [] front) x

-- A phase ends once all have brought a token but those that have left
abbrev pub EndsWithAll : Type 0 → Type 0
EndsWithAll T = (parties : ℕ) (front : List (Step T)) (e : Step T) (places : List (Option T)) → IsHistory parties (front ++ e ∷ []) → ends_with e.reply ≡ Some places → IsOfAllLeft parties (front ++ e ∷ []) places

-- the last of these calls ended a phase, and got these tokens
abbrev pub HasCollected : {T : Type 0} → ℕ → List (Step T) → List (Option T) → Type 0
HasCollected parties es places = (front : List (Step _)) (e : Step _) → es ≡ front ++ e ∷ [] → IsCollected parties (this_phase [] front ++ e ∷ []) places

-- the last of these calls took this token for the party n
abbrev pub HasTaken : {T : Type 0} → ℕ → List (Step T) → T → Type 0
HasTaken n es x = (front : List (Step _)) (e : Step _) → es ≡ front ++ e ∷ [] → IsHandedOut n (this_phase [] front) x

-- the stage of a party after it has given tokens
abbrev pub stage_given : PartyStage → PartyStage
stage_given stage.Free = stage.Waits
stage_given stage.Waits = stage.Waits
stage_given (stage.Elected all) = stage.Waits
stage_given (stage.Leaving all) = stage.Gone
stage_given stage.Gone = stage.Gone

-- the stage of a party after a call with this reply
abbrev pub stage_after : {T : Type 0} → PartyStage → ExchangeReply T → PartyStage
stage_after s Waiting = stage.Waits
stage_after s (Collected ps) = stage.Elected (who ps)
stage_after s Given = stage_given s
stage_after s (Taken x) = stage.Free
stage_after s Nothing = s
stage_after s Refused = s
stage_after s (Left last) = stage.Gone
stage_after s (Leaving ps) = stage.Leaving (who ps)
stage_after s Gone = s

-- the stage of a party after these of its own calls, if it was at this stage before
abbrev pub stage_from : {T : Type 0} → PartyStage → List (Step T) → PartyStage
stage_from s [] = s
stage_from s (e ∷ es) = stage_from (stage_after s e.reply) es

-- the party has the tokens of all, and has to give one to each of these parties
abbrev pub HasToGive : PartyStage → List Bool → Type 0
HasToGive stage.Free to = ⊥
HasToGive stage.Waits to = ⊥
HasToGive (stage.Elected all) to = to ≡ all
HasToGive (stage.Leaving all) to = to ≡ all
HasToGive stage.Gone to = ⊥

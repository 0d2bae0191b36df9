-- What a contract sees of an exchange and of its passes.
use Rattle.std.specs.Prelude.{◌≡◌, ℕ, true, false, List, [], ◌∷◌, Result, Ok, Err, Option, Some, None}
use Rattle.std.specs.Global.{Vec}
use Rattle.lock_book.specs.declared.kept.Kept.{Ghosts}
use Rattle.lock_book.specs.declared.shelf.Pass.{Pass}
use Rattle.lock_book.specs.Told.{Makes}
use Rattle.lock_book.specs.Shown as shelf
use Rattle.par_exchange.specs.declared.history.ExchangeName.{ExchangeName}
use Rattle.par_exchange.specs.declared.history.ExchangeState.{ExchangeState}
use Rattle.par_exchange.specs.declared.history.ExchangeCall.{ExchangeCall}
use Rattle.par_exchange.specs.declared.history.ExchangeReply.{ExchangeReply}
use Rattle.par_exchange.specs.declared.history.ExchangeReply.TheVariants as reply
use Rattle.par_exchange.specs.declared.history.PartyStage.{PartyStage}
use Rattle.par_exchange.specs.declared.history.PartyStage.TheVariants.{Free}
use Rattle.par_exchange.specs.declared.asks.Ask.{Ask}
use Rattle.par_exchange.specs.declared.asks.Answer.{Answer}
use Rattle.par_exchange.specs.declared.asks.Gathered.{Gathered}
use Rattle.par_exchange.specs.declared.asks.Gathered.TheVariants as gathered
use Rattle.par_exchange.specs.declared.asks.Departure.{Departure}
use Rattle.par_exchange.specs.declared.asks.Departure.TheVariants as departure
use Rattle.par_exchange.specs.declared.asks.Stays.{Stays}
use Rattle.par_exchange.specs.declared.asks.Stays.TheVariants as stays
use Rattle.par_exchange.specs.declared.desk.Desk.{Desk}
use Rattle.par_exchange.specs.declared.exchange.Exchange.{Exchange}
use Rattle.par_exchange.specs.States.{fresh}
use Rattle.par_exchange.specs.Legal.{ExchangeLegal}
use Rattle.par_exchange.specs.Phases.{Step, stage_from}

module _ {X T S : Type 0} where
  -- how many parties an exchange has
  abbrev pub parties_of : Exchange X T S → ℕ
  parties_of x = shelf.callers_of x.shelf

  -- the exchange was made with this sign, and opened with nothing brought
  pub record IsExchange (sign : S) (x : Exchange X T S) : Type 0 where
    pub one : shelf.count_of x.shelf ≡ 1
    pub opens : shelf.opens_of x.shelf ≡ (record { parties = parties_of x; sign = sign }, fresh (parties_of x)) ∷ []

-- g are the meanings of the locked desk's members
module _ {X T S : Type 0} {g : Ghosts (Desk X T S) (Unit {0}) (Ask T) (Answer T) (ExchangeName S) (ExchangeState T) (ExchangeCall T) (ExchangeReply T)} where
  -- the history of the exchange, as far as the pass has seen it
  abbrev pub history_of : Pass (Desk X T S) (Unit {0}) (Ask T) (Answer T) (ExchangeName S) (ExchangeState T) (ExchangeCall T) (ExchangeReply T) g → List (Step T)
  history_of p = shelf.seen_of p 0

  -- the pass's own calls
  abbrev pub own_of : Pass (Desk X T S) (Unit {0}) (Ask T) (Answer T) (ExchangeName S) (ExchangeState T) (ExchangeCall T) (ExchangeReply T) g → List (Step T)
  own_of p = shelf.mine_of p 0

  -- the stage of the party, by its own calls
  abbrev pub stage_of : Pass (Desk X T S) (Unit {0}) (Ask T) (Answer T) (ExchangeName S) (ExchangeState T) (ExchangeCall T) (ExchangeReply T) g → PartyStage
  stage_of p = stage_from Free (own_of p)

  -- the pass is one of this exchange's, with what is always true of such a pass
  abbrev pub Belongs : Exchange X T S → Pass (Desk X T S) (Unit {0}) (Ask T) (Answer T) (ExchangeName S) (ExchangeState T) (ExchangeCall T) (ExchangeReply T) g → Type 0
  Belongs x p = shelf.Belongs x.shelf p

  -- the passes of all parties, in order of their numbers
  abbrev pub AreAll : Exchange X T S → List (Pass (Desk X T S) (Unit {0}) (Ask T) (Answer T) (ExchangeName S) (ExchangeState T) (ExchangeCall T) (ExchangeReply T) g) → Type 0
  AreAll x passes = shelf.AreAll x.shelf passes

  -- what one call c with the reply r made of the pass: the history seen then begins with what was seen before and ends
  -- with this call, legal at its place, and the pass's own calls have this one more
  abbrev pub Called : Exchange X T S → Pass (Desk X T S) (Unit {0}) (Ask T) (Answer T) (ExchangeName S) (ExchangeState T) (ExchangeCall T) (ExchangeReply T) g → Pass (Desk X T S) (Unit {0}) (Ask T) (Answer T) (ExchangeName S) (ExchangeState T) (ExchangeCall T) (ExchangeReply T) g → ExchangeCall T → ExchangeReply T → Type 0
  Called x p q c r = Makes ExchangeLegal (fresh (parties_of x)) (shelf.number_of p) (history_of p) (own_of p) (history_of q) (own_of q) c r

module _ {T : Type 0} where
  -- the reply that an answer of `gather` represents
  abbrev pub gather_reply : Result (Gathered T) T → ExchangeReply T
  gather_reply (Ok gathered.Waiting) = reply.Waiting
  gather_reply (Ok (gathered.Elected v)) = reply.Collected v.items
  gather_reply (Err x) = reply.Refused

  -- the reply that an answer of `scatter` represents
  abbrev pub scatter_reply : Result (Unit {0}) (Vec (Option T)) → ExchangeReply T
  scatter_reply (Ok u) = reply.Given
  scatter_reply (Err v) = reply.Refused

  -- the reply that an answer of `take` represents
  abbrev pub take_reply : Option T → ExchangeReply T
  take_reply None = reply.Nothing
  take_reply (Some x) = reply.Taken x

  -- the reply that an answer of `leave` represents
  abbrev pub leave_reply : Result (Departure T) Stays → ExchangeReply T
  leave_reply (Ok departure.Left) = reply.Left false
  leave_reply (Ok departure.Last) = reply.Left true
  leave_reply (Ok (departure.Elected v)) = reply.Leaving v.items
  leave_reply (Err stays.Busy) = reply.Refused
  leave_reply (Err stays.Gone) = reply.Gone

  -- a fact of what the elected got by `gather`
  abbrev pub IfElected : Result (Gathered T) T → (List (Option T) → Type 0) → Type 0
  IfElected (Ok gathered.Waiting) P = Unit {0}
  IfElected (Ok (gathered.Elected v)) P = P v.items
  IfElected (Err x) P = Unit {0}

  -- a fact of what the elected got by `leave`
  abbrev pub IfLeaving : Result (Departure T) Stays → (List (Option T) → Type 0) → Type 0
  IfLeaving (Ok departure.Left) P = Unit {0}
  IfLeaving (Ok departure.Last) P = Unit {0}
  IfLeaving (Ok (departure.Elected v)) P = P v.items
  IfLeaving (Err why) P = Unit {0}

-- What a closed exchange shows.
use Rattle.std.specs.Prelude.{◌≡◌, ℕ, ◌≤◌, List, []}
use mathlib.Core.Option.{some}
use lib.ListN.{get_elem?}
use Rattle.lock_book.specs.declared.kept.Kept.{Ghosts}
use Rattle.lock_book.specs.declared.close.Closed.{Closed}
use Rattle.lock_book.specs.declared.shelf.Pass.{Pass}
use Rattle.lock_book.specs.History.{StartsWith, calls_by}
use Rattle.lock_book.specs.Shown as shelf
use Rattle.par_exchange.specs.declared.history.ExchangeName.{ExchangeName}
use Rattle.par_exchange.specs.declared.history.ExchangeState.{ExchangeState}
use Rattle.par_exchange.specs.declared.history.ExchangeCall.{ExchangeCall}
use Rattle.par_exchange.specs.declared.history.ExchangeReply.{ExchangeReply}
use Rattle.par_exchange.specs.declared.asks.Ask.{Ask}
use Rattle.par_exchange.specs.declared.asks.Answer.{Answer}
use Rattle.par_exchange.specs.declared.desk.Desk.{Desk}
use Rattle.par_exchange.specs.declared.exchange.Exchange.{Exchange}
use Rattle.par_exchange.specs.Phases.{IsHistory, Step}
use Rattle.par_exchange.specs.Shown.{history_of, own_of, parties_of}

module _ {X T S : Type 0} {g : Ghosts (Desk X T S) (Unit {0}) (Ask T) (Answer T) (ExchangeName S) (ExchangeState T) (ExchangeCall T) (ExchangeReply T)} where
  -- the whole history of a closed exchange
  abbrev pub whole_of : Closed (Desk X T S) (Unit {0}) (Ask T) (Answer T) (ExchangeName S) (ExchangeState T) (ExchangeCall T) (ExchangeReply T) g → List (Step T)
  whole_of c = shelf.whole_of c 0

  -- The exchange with these passes was closed. Its whole history is legal and begins with what each pass had seen; the
  -- entries of a party are the own calls of its pass, and there are no others
  pub record Ended (x : Exchange X T S) (passes : List (Pass (Desk X T S) (Unit {0}) (Ask T) (Answer T) (ExchangeName S) (ExchangeState T) (ExchangeCall T) (ExchangeReply T) g)) (c : Closed (Desk X T S) (Unit {0}) (Ask T) (Answer T) (ExchangeName S) (ExchangeState T) (ExchangeCall T) (ExchangeReply T) g) : Type 0 where
    pub lawful : IsHistory (parties_of x) (whole_of c)
    pub begins : (n : ℕ) (p : _) → get_elem? passes n ≡ some p → StartsWith (whole_of c) (history_of p)
    pub mine : (n : ℕ) (p : _) → get_elem? passes n ≡ some p → calls_by n (whole_of c) ≡ own_of p
    pub no_others : (n : ℕ) → parties_of x ≤ n → calls_by n (whole_of c) ≡ []

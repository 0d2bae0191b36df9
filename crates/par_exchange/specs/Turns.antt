-- What holds after one turn at the desk of an exchange, as facts about plain histories.
use Rattle.std.specs.Prelude.{◌≡◌, ℕ, ◌<◌, List, [], ◌∷◌, ◌++◌}
use Rattle.lock_book.specs.History.{StartsWith, IsLegal, calls_by, entry, last_of}
use Rattle.par_exchange.specs.declared.history.ExchangeState.{ExchangeState}
use Rattle.par_exchange.specs.declared.history.ExchangeCall.{ExchangeCall}
use Rattle.par_exchange.specs.declared.history.ExchangeReply.{ExchangeReply}
use Rattle.par_exchange.specs.States.{fresh}
use Rattle.par_exchange.specs.Legal.{MayCall}
use Rattle.par_exchange.specs.Phases.{Step}

-- The call c of the party n with the reply r: what is seen then, `seen'`, begins with what was seen, and ends with the
-- call, which is legal after all calls before it, each of which its caller might make; these have the party's own calls
pub record Turned {T : Type 0} (brings gives : ℕ → T → Type 0) (leaves : ℕ → Type 0) (parties n : ℕ) (seen mine seen' mine' : List (Step T)) (c : ExchangeCall T) (r : ExchangeReply T) : Type 0 where
  pub before : List (Step T)
  pub after : ExchangeState T
  pub ends : seen' ≡ before ++ entry n c r after ∷ []
  pub begins : StartsWith before seen
  pub lawful : IsLegal (MayCall brings gives leaves) (fresh parties) before
  pub step : MayCall brings gives leaves n (last_of (fresh parties) before) c r after
  pub own : mine' ≡ mine ++ entry n c r after ∷ []
  pub known : calls_by n before ≡ mine
  pub low : n < parties

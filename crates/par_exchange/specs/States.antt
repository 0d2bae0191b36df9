-- The states of an exchange: what each party has brought, what was given to it, and whether it takes part.
use Rattle.std.specs.Prelude.{ℕ, Bool, true, false, not, ◌==◌, ◌||◌, List, map, replicate, slice_index_or, Option, Some, None, is_some, refl}
use Rattle.std.specs.Coded.{Coded, code_by, coded×, coded_ℕ, coded_bool, coded_list, coded_option}
use Rattle.par_exchange.specs.declared.history.ExchangeState.{ExchangeState}

-- whether n is the party that was elected
abbrev pub is_elected : ℕ → Option ℕ → Bool
is_elected n None = false
is_elected n (Some m) = m == n

-- whether the party n takes part, if these tell it of each party
abbrev pub takes_part : ℕ → List Bool → Bool
takes_part n present = slice_index_or present n false

-- what contracts see of the tokens of an exchange: how many parties there are, and the state
pub record TokensView (T : Type 0) : Type 0 where
  pub parties : ℕ
  pub state : ExchangeState T

-- the code by which proofs distinguish such values
abbrev pub tokens_code : {T : Type 0} → Coded T → Coded (TokensView T)
tokens_code {T} c =
    code_by (ℕ × (List (Option T) × (List (Option T) × (List Bool × Option ℕ)))) (coded× coded_ℕ (coded× (coded_list (coded_option c)) (coded× (coded_list (coded_option c)) (coded× (coded_list coded_bool) (coded_option coded_ℕ)))))
    (λ d. (d.parties, (d.state.brought, (d.state.given, (d.state.present, d.state.elected))))) (λ q. record { parties = q.0; state = record { brought = q.1.0; given = q.1.1.0; present = q.1.1.1.0; elected = q.1.1.1.1 } }) (λ _. refl)

module _ {T : Type 0} where
  -- the token at a place, if there is one
  abbrev pub at : List (Option T) → ℕ → Option T
  at places n = slice_index_or places n None

  -- which of the places have a token
  abbrev pub who : List (Option T) → List Bool
  who places = map (λ p. is_some p) places

  -- an equally long list of places with nothing in them
  abbrev pub cleared : List (Option T) → List (Option T)
  cleared places = map (λ _. None) places

  -- all take part, nothing was brought yet and nothing given
  abbrev pub fresh : ℕ → ExchangeState T
  fresh parties = record { brought = replicate parties None; given = replicate parties None; present = replicate parties true; elected = None }

  -- whether the party n may not bring a token: somebody has the tokens of all, or n has brought one already, or has one
  -- to take, or has left
  abbrev pub is_busy : ℕ → ExchangeState T → Bool
  is_busy n s = is_some s.elected || is_some (at s.brought n) || is_some (at s.given n) || not (takes_part n s.present)

-- What a call of an exchange may be answered, and what it does: for the party n in the state s, the reply r and the
-- state t after it.
use Rattle.std.specs.Prelude.{◌≡◌, ◌≢◌, ℕ, ◌<◌, Bool, true, false, List, length, slice_set, Option, Some, None}
use Rattle.std.specs.List.{list_any}
use Rattle.par_exchange.specs.declared.history.ExchangeState.{ExchangeState}
use Rattle.par_exchange.specs.declared.history.ExchangeCall.{ExchangeCall}
use Rattle.par_exchange.specs.declared.history.ExchangeCall.TheVariants.{Bring, Give, Leave, Take}
use Rattle.par_exchange.specs.declared.history.ExchangeReply.{ExchangeReply}
use Rattle.par_exchange.specs.declared.history.ExchangeReply.TheVariants.{Waiting, Collected, Given, Taken, Nothing, Refused, Left, Leaving, Gone}
use Rattle.par_exchange.specs.States.{at, cleared, is_busy, is_elected, takes_part, who}

-- the places after the party n has brought a token, and the parties that take part after it has left
abbrev pub with_token : {T : Type 0} → ℕ → T → List (Option T) → List (Option T)
with_token n x places = slice_set places n (Some x)

abbrev pub without : ℕ → List Bool → List Bool
without n present = slice_set present n false

module _ {T : Type 0} (n : ℕ) (s : ExchangeState T) (r : ExchangeReply T) (t : ExchangeState T) where
  -- A party brings a token. Once exactly those that take part have brought one, the phase ends: the party is elected,
  -- and gets what each party brought
  pub record Brings (token : T) : Type 0 where
    pub party : n < length s.brought
    pub refused : is_busy n s ≡ true → (r ≡ Refused) × (t ≡ s)
    pub waits : is_busy n s ≡ false → who (with_token n token s.brought) ≢ s.present → (r ≡ Waiting) × (t ≡ record s { brought = with_token n token s.brought })
    pub ends : is_busy n s ≡ false → who (with_token n token s.brought) ≡ s.present → (r ≡ Collected (with_token n token s.brought)) × (t ≡ record s { brought = cleared s.brought; elected = Some n })

  -- The elected gives a token to each party that takes part, in its place, and nobody is elected any more
  pub record Gives (places : List (Option T)) : Type 0 where
    pub refused : is_elected n s.elected ≡ false → (r ≡ Refused) × (t ≡ s)
    pub unfit : who places ≢ s.present → (r ≡ Refused) × (t ≡ s)
    pub given : is_elected n s.elected ≡ true → who places ≡ s.present → (r ≡ Given) × (t ≡ record s { given = places; elected = None })

  -- A party takes the token that was given to it
  pub record Takes : Type 0 where
    pub nothing : at s.given n ≡ None → (r ≡ Nothing) × (t ≡ s)
    pub taken : (x : T) → at s.given n ≡ Some x → (r ≡ Taken x) × (t ≡ record s { given = slice_set s.given n None })

  -- A party takes part no more, unless it has a token to take or to give. If exactly the others have brought one, the
  -- phase ends: the party is elected, and gets what they brought
  pub record Leaves : Type 0 where
    pub party : n < length s.present
    pub gone : takes_part n s.present ≡ false → (r ≡ Gone) × (t ≡ s)
    pub busy : takes_part n s.present ≡ true → is_busy n s ≡ true → (r ≡ Refused) × (t ≡ s)
    pub last : is_busy n s ≡ false → list_any (λ here. here) (without n s.present) ≡ false → (r ≡ Left true) × (t ≡ record s { present = without n s.present })
    pub left : is_busy n s ≡ false → list_any (λ here. here) (without n s.present) ≡ true → who s.brought ≢ without n s.present → (r ≡ Left false) × (t ≡ record s { present = without n s.present })
    pub ends : is_busy n s ≡ false → list_any (λ here. here) (without n s.present) ≡ true → who s.brought ≡ without n s.present
        → (r ≡ Leaving s.brought) × (t ≡ record s { brought = cleared s.brought; present = without n s.present; elected = Some n })

-- the call of the party n may be answered r and leave t
abbrev pub ExchangeLegal : {T : Type 0} → ℕ → ExchangeState T → ExchangeCall T → ExchangeReply T → ExchangeState T → Type 0
ExchangeLegal n s (Bring x) r t = Brings n s r t x
ExchangeLegal n s (Give ps) r t = Gives n s r t ps
ExchangeLegal n s Take r t = Takes n s r t
ExchangeLegal n s Leave r t = Leaves n s r t

-- a fact of each token and its place
abbrev pub Each : {T : Type 0} → (ℕ → T → Type 0) → List (Option T) → Type 0
Each P places = (k : ℕ) (x : _) → at places k ≡ Some x → P k x

-- a fact of each party whose place has no token
abbrev pub AreMissing : {T : Type 0} → (ℕ → Type 0) → ℕ → List (Option T) → Type 0
AreMissing P parties places = (k : ℕ) → k < parties → at places k ≡ None → P k

-- What a party asks fits the trade: it may bring the token that it brings, gives each party one that may be given to it,
-- and may leave
abbrev pub CallFits : {T : Type 0} → (ℕ → T → Type 0) → (ℕ → T → Type 0) → (ℕ → Type 0) → ℕ → ExchangeCall T → Type 0
CallFits brings gives leaves n (Bring x) = brings n x
CallFits brings gives leaves n (Give ps) = Each gives ps
CallFits brings gives leaves n Take = Unit {0}
CallFits brings gives leaves n Leave = leaves n

-- the call is legal, and the caller may make it
pub record MayCall {T : Type 0} (brings gives : ℕ → T → Type 0) (leaves : ℕ → Type 0) (n : ℕ) (s : ExchangeState T) (c : ExchangeCall T) (r : ExchangeReply T) (t : ExchangeState T) : Type 0 where
  pub legal : ExchangeLegal n s c r t
  pub fits : CallFits brings gives leaves n c

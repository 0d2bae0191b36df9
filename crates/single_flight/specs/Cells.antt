-- The cell of a key: what a call is answered in each state, and the state after it. V is a value.
use Rattle.std.specs.Prelude.{◌≡◌, ℕ, ◌+◌, ◌%◌, ◌^◌, ◌==◌, cond}
use Rattle.single_flight.specs.declared.history.CellState.{CellState}
use Rattle.single_flight.specs.declared.history.CellState.TheVariants.{Empty, Loading, Here}
use Rattle.single_flight.specs.declared.history.CellCall.{CellCall}
use Rattle.single_flight.specs.declared.history.CellCall.TheVariants.{Ask, Look, Put, Fail, Remove}
use Rattle.single_flight.specs.declared.history.CellReply.{CellReply}
use Rattle.single_flight.specs.declared.history.CellReply.TheVariants.{Value, Yours, Busy, Failed, Done, Refused}

-- the number of the load after this one
abbrev pub next : ℕ → ℕ
next load = (load + 1) % 2 ^ 64

module _ {V : Type 0} where
  -- What the call of the caller n is answered, and the state after it. Only the caller that has the load ends it; what
  -- is in no other line is refused
  abbrev pub stepped : ℕ → CellState V → CellCall V → CellReply V × CellState V
  stepped n (Empty load) Ask = (Yours load, Loading load n)
  stepped n (Loading load m) Ask = (Busy load, Loading load m)
  stepped n (Here load v) Ask = (Value v, Here load v)
  stepped n (Empty load) (Look number) = (Failed, Empty load)
  stepped n (Loading load m) (Look number) = cond (load == number) (Busy load, Loading load m) (Failed, Loading load m)
  stepped n (Here load v) (Look number) = (Value v, Here load v)
  stepped n (Loading load m) (Put v) = cond (m == n) (Done, Here load v) (Refused, Loading load m)
  stepped n (Loading load m) Fail = cond (m == n) (Done, Empty (next load)) (Refused, Loading load m)
  stepped n (Here load v) Remove = (Done, Empty (next load))
  stepped n s call = (Refused, s)

  -- the replies that a call may have in some state
  abbrev pub MayReply : CellCall V → CellReply V → Type 0
  MayReply Ask (Value v) = Unit {0}
  MayReply Ask (Yours load) = Unit {0}
  MayReply Ask (Busy load) = Unit {0}
  MayReply Ask Failed = ⊥
  MayReply Ask Done = ⊥
  MayReply Ask Refused = ⊥
  MayReply (Look number) (Value v) = Unit {0}
  MayReply (Look number) (Yours load) = ⊥
  MayReply (Look number) (Busy load) = Unit {0}
  MayReply (Look number) Failed = Unit {0}
  MayReply (Look number) Done = ⊥
  MayReply (Look number) Refused = ⊥
  MayReply (Put w) (Value v) = ⊥
  MayReply (Put w) (Yours load) = ⊥
  MayReply (Put w) (Busy load) = ⊥
  MayReply (Put w) Failed = ⊥
  MayReply (Put w) Done = Unit {0}
  MayReply (Put w) Refused = Unit {0}
  MayReply Fail (Value v) = ⊥
  MayReply Fail (Yours load) = ⊥
  MayReply Fail (Busy load) = ⊥
  MayReply Fail Failed = ⊥
  MayReply Fail Done = Unit {0}
  MayReply Fail Refused = Unit {0}
  MayReply Remove (Value v) = ⊥
  MayReply Remove (Yours load) = ⊥
  MayReply Remove (Busy load) = ⊥
  MayReply Remove Failed = ⊥
  MayReply Remove Done = Unit {0}
  MayReply Remove Refused = Unit {0}

  -- a value that is put is one that holds of the key
  abbrev pub CallFits : (V → Type 0) → CellCall V → Type 0
  CallFits holds Ask = Unit {0}
  CallFits holds (Look number) = Unit {0}
  CallFits holds (Put v) = holds v
  CallFits holds Fail = Unit {0}
  CallFits holds Remove = Unit {0}

-- the call of the caller n may be answered r and leave t, and the caller may make it
pub record MayCall {V : Type 0} (holds : V → Type 0) (n : ℕ) (s : CellState V) (c : CellCall V) (r : CellReply V) (t : CellState V) : Type 0 where
  pub step : (r, t) ≡ stepped n s c
  pub fits : CallFits holds c

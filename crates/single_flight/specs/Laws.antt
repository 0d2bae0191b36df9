-- The histories of a cell, what its calls have put, and who has its load; and the laws of every history.
use Rattle.std.specs.Prelude.{◌≡◌, ℕ, ◌==◌, Bool, true, false, ◌&&◌, List, [], ◌∷◌, ◌++◌, Option, Some, None}
use Rattle.std.specs.List.{list_any}
use Rattle.lock_book.specs.declared.view.Entry.{Entry}
use Rattle.lock_book.specs.History.{IsLegal}
use Rattle.single_flight.specs.declared.history.CellState.{CellState}
use Rattle.single_flight.specs.declared.history.CellState.TheVariants.{Empty}
use Rattle.single_flight.specs.declared.history.CellCall.{CellCall}
use Rattle.single_flight.specs.declared.history.CellCall.TheVariants.{Ask, Look, Put, Fail, Remove}
use Rattle.single_flight.specs.declared.history.CellReply.{CellReply}
use Rattle.single_flight.specs.declared.history.CellReply.TheVariants.{Value, Yours, Done}
use Rattle.single_flight.specs.Cells.{stepped}

-- a call with its reply and the state after it
abbrev pub Step : Type 0 → Type 0
Step V = Entry (CellState V) (CellCall V) (CellReply V)

module _ {V : Type 0} where
  -- each call is answered as the state before it says
  abbrev pub CellLegal : ℕ → CellState V → CellCall V → CellReply V → CellState V → Type 0
  CellLegal n s c r t = (r, t) ≡ stepped n s c

  -- the history is one of a cell that was empty when it was made
  abbrev pub IsHistory : List (Step V) → Type 0
  IsHistory es = IsLegal CellLegal (Empty 0) es

  -- the value after a call with its reply, if this was the value before it
  abbrev pub value_after : Option V → CellCall V → CellReply V → Option V
  value_after o (Put v) Done = Some v
  value_after o Remove Done = None
  value_after o call reply = o

  abbrev pub value_from : Option V → List (Step V) → Option V
  value_from o [] = o
  value_from o (e ∷ es) = value_from (value_after o e.call e.reply) es

  -- the value that these calls have put last and not removed
  abbrev pub value_in : List (Step V) → Option V
  value_in es = value_from None es

  -- the number of the load that a caller has after a call of its own, if this was the one before it
  abbrev pub load_after : Option ℕ → CellCall V → CellReply V → Option ℕ
  load_after o Ask (Yours load) = Some load
  load_after o (Put v) Done = None
  load_after o Fail Done = None
  load_after o call reply = o

  abbrev pub load_from : Option ℕ → List (Step V) → Option ℕ
  load_from o [] = o
  load_from o (e ∷ es) = load_from (load_after o e.call e.reply) es

  -- the number of the load that a caller with these calls has to end, if there is one
  abbrev pub load_in : List (Step V) → Option ℕ
  load_in mine = load_from None mine

  -- whether the call only asks, for the value or what came of a load
  abbrev pub is_question : CellCall V → Bool
  is_question Ask = true
  is_question (Look number) = true
  is_question (Put v) = false
  is_question Fail = false
  is_question Remove = false

  -- whether the call put a value, removed one, ended a load, or left those that wait with no value
  abbrev pub is_put : CellCall V → CellReply V → Bool
  is_put (Put v) Done = true
  is_put call reply = false

  abbrev pub is_removal : CellCall V → CellReply V → Bool
  is_removal Remove Done = true
  is_removal call reply = false

  abbrev pub is_end : CellCall V → CellReply V → Bool
  is_end (Put v) Done = true
  is_end Fail Done = true
  is_end call reply = false

  abbrev pub is_loss : CellCall V → CellReply V → Bool
  is_loss Fail Done = true
  is_loss Remove Done = true
  is_loss call reply = false

-- Between two values that were put, one was removed
abbrev pub LoadsOnce : Type 0 → Type 0
LoadsOnce V = (front mid : List (Step V)) (e x : Step V) → IsHistory (front ++ e ∷ (mid ++ x ∷ [])) → is_put e.call e.reply ≡ true → is_put x.call x.reply ≡ true → list_any (λ y. is_removal y.call y.reply) mid ≡ true

-- Of two callers that were told to load, the first has ended its load before the second was told so
abbrev pub LoadsAlone : Type 0 → Type 0
LoadsAlone V = (front mid : List (Step V)) (e x : Step V) (load number : ℕ) → IsHistory (front ++ e ∷ (mid ++ x ∷ [])) → e.reply ≡ Yours load → x.reply ≡ Yours number → list_any (λ y. (y.by == e.by) && is_end y.call y.reply) mid ≡ true

-- What a caller gets is what was put last, and not removed since
abbrev pub GetsWhatWasPut : Type 0 → Type 0
GetsWhatWasPut V = (front : List (Step V)) (e : Step V) (v : V) → IsHistory (front ++ e ∷ []) → e.reply ≡ Value v → value_in front ≡ Some v

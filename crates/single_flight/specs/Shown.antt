-- What a contract sees of a loader, of its passes, and of what a caller finds.
use Rattle.std.specs.Prelude.{◌≡◌, ◌≢◌, ℕ, ◌<◌, Bool, true, false, List, ◌∷◌, ◌++◌, Option, Some, None}
use Rattle.std.specs.List.{list_all, list_any}
use Rattle.lock_book.specs.declared.kept.Kept.{Ghosts}
use Rattle.lock_book.specs.declared.shelf.Pass.{Pass}
use Rattle.lock_book.specs.History.{StartsWith}
use Rattle.lock_book.specs.Shown as shelf
use Rattle.single_flight.specs.declared.history.CellState.{CellState}
use Rattle.single_flight.specs.declared.history.CellCall.{CellCall}
use Rattle.single_flight.specs.declared.history.CellReply.{CellReply}
use Rattle.single_flight.specs.declared.history.CellReply.TheVariants.{Busy, Done, Refused}
use Rattle.single_flight.specs.declared.cell.Ask.{Ask}
use Rattle.single_flight.specs.declared.cell.Cell.{Cell}
use Rattle.single_flight.specs.declared.found.Found.{Found}
use Rattle.single_flight.specs.declared.found.Found.TheVariants as found
use Rattle.single_flight.specs.declared.found.Load.{Load}
use Rattle.single_flight.specs.declared.loader.Loader.{Loader}
use Rattle.single_flight.specs.Laws.{Step, is_loss, is_question, load_in}

-- the key of a load, and which load of the key it is
abbrev pub key_of : Load → ℕ
key_of load = load.key

abbrev pub load_number : Load → ℕ
load_number load = load.number

-- how many keys a loader has
abbrev pub keys_of : {L V : Type 0} → Loader L V → ℕ
keys_of l = shelf.count_of l.shelf

-- g are the meanings of the locked cells' members
module _ {L V : Type 0} {g : Ghosts (Cell L V) (Unit {0}) (Ask V) (CellReply V) ℕ (CellState V) (CellCall V) (CellReply V)} where
  -- the history of a key, as far as the pass has seen it
  abbrev pub history_of : Pass (Cell L V) (Unit {0}) (Ask V) (CellReply V) ℕ (CellState V) (CellCall V) (CellReply V) g → ℕ → List (Step V)
  history_of p key = shelf.seen_of p key

  -- the pass's own calls of a key
  abbrev pub own_of : Pass (Cell L V) (Unit {0}) (Ask V) (CellReply V) ℕ (CellState V) (CellCall V) (CellReply V) g → ℕ → List (Step V)
  own_of p key = shelf.mine_of p key

  -- the number of the key's load that the pass's caller has to end, if there is one
  abbrev pub load_of : Pass (Cell L V) (Unit {0}) (Ask V) (CellReply V) ℕ (CellState V) (CellCall V) (CellReply V) g → ℕ → Option ℕ
  load_of p key = load_in (own_of p key)

  -- the pass is one of this loader's, with what is always true of such a pass
  abbrev pub Belongs : Loader L V → Pass (Cell L V) (Unit {0}) (Ask V) (CellReply V) ℕ (CellState V) (CellCall V) (CellReply V) g → Type 0
  Belongs l p = shelf.Belongs l.shelf p

  -- the passes of all callers, in order of their numbers
  abbrev pub AreAll : Loader L V → List (Pass (Cell L V) (Unit {0}) (Ask V) (CellReply V) ℕ (CellState V) (CellCall V) (CellReply V) g) → Type 0
  AreAll l passes = shelf.AreAll l.shelf passes

  -- the pass's caller has this load to end
  abbrev pub HasLoad : Loader L V → Pass (Cell L V) (Unit {0}) (Ask V) (CellReply V) ℕ (CellState V) (CellCall V) (CellReply V) g → Load → Type 0
  HasLoad l p load = (key_of load < keys_of l) × (load_of p (key_of load) ≡ Some (load_number load))

  -- what one call c of a key with the reply r made of the pass: the history of the key that is seen then begins with
  -- what was seen before and ends with this call, legal at its place and one more of the pass's own; at other keys
  -- nothing changes
  abbrev pub Called : Loader L V → Pass (Cell L V) (Unit {0}) (Ask V) (CellReply V) ℕ (CellState V) (CellCall V) (CellReply V) g → Pass (Cell L V) (Unit {0}) (Ask V) (CellReply V) ℕ (CellState V) (CellCall V) (CellReply V) g → ℕ → CellCall V → CellReply V → Type 0
  Called l p q key c r = shelf.Called l.shelf p q key c r

  -- what asking for one key made of the pass: it has seen more of the key's history, its own calls there are questions
  -- and no others, and nothing changes at other keys
  pub record Asked (key : ℕ) (p q : Pass (Cell L V) (Unit {0}) (Ask V) (CellReply V) ℕ (CellState V) (CellCall V) (CellReply V) g) : Type 0 where
    pub begins : StartsWith (history_of q key) (history_of p key)
    pub more : List (Step V)
    pub own : own_of q key ≡ own_of p key ++ more
    pub questions : list_all (λ y. is_question y.call) more ≡ true
    pub others_seen : (k : ℕ) → k ≢ key → history_of q k ≡ history_of p k
    pub others_own : (k : ℕ) → k ≢ key → own_of q k ≡ own_of p k

module _ {V : Type 0} where
  -- The caller n, that had seen `seen`, was told that a load is under way, and after that a load failed or its value was
  -- removed
  pub record HasFailed (n : ℕ) (seen seen' : List (Step V)) : Type 0 where
    pub before : List (Step V)
    pub waited : Step V
    pub since : List (Step V)
    pub number : ℕ
    pub ends : seen' ≡ before ++ waited ∷ since
    pub begins : StartsWith before seen
    pub own : waited.by ≡ n
    pub busy : waited.reply ≡ Busy number
    pub lost : list_any (λ y. is_loss y.call y.reply) since ≡ true

  -- a fact of the value that was found
  abbrev pub IfValue : Found V → (V → Type 0) → Type 0
  IfValue (found.Value v) P = P v
  IfValue (found.Load load) P = Unit {0}
  IfValue found.Failed P = Unit {0}

  -- a fact of the load that a caller has to make
  abbrev pub IfLoad : Found V → (Load → Type 0) → Type 0
  IfLoad (found.Value v) P = Unit {0}
  IfLoad (found.Load load) P = P load
  IfLoad found.Failed P = Unit {0}

  -- a fact of a wait that brought nothing
  abbrev pub IfFailed : Found V → Type 0 → Type 0
  IfFailed (found.Value v) P = Unit {0}
  IfFailed (found.Load load) P = Unit {0}
  IfFailed found.Failed P = P

  -- the number of the load that a caller has to make, if that was found
  abbrev pub number_found : Found V → Option ℕ
  number_found (found.Value v) = None
  number_found (found.Load load) = Some (load_number load)
  number_found found.Failed = None

-- the reply that an answer of `remove` represents
abbrev pub removal_reply : {V : Type 0} → Bool → CellReply V
removal_reply true = Done
removal_reply false = Refused

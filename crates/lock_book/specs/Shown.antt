-- What a contract sees of a shelf, of its passes and of a closed shelf.
use Rattle.std.specs.Prelude.{◌≡◌, ◌≢◌, ℕ, ◌+◌, ◌<◌, ◌≤◌, List, [], ◌∷◌, ◌++◌, length, map}
use mathlib.Core.Option.{some}
use lib.ListN.{get_elem?}
use Rattle.lock_book.specs.declared.kept.Kept.{Ghosts}
use Rattle.atomic_table.specs.Seated.{TableId}
use Rattle.atomic_table.specs.Table.{Me}
use Rattle.lock_book.specs.declared.view.Entry.{Entry}
use Rattle.lock_book.specs.declared.view.View.{View}
use Rattle.lock_book.specs.declared.shelf.Pass.{Pass}
use Rattle.lock_book.specs.declared.shelf.Shelf.{Shelf}
use Rattle.lock_book.specs.declared.close.Closed.{Closed}
use Rattle.lock_book.specs.declared.joined.Joined.{Joined}
use Rattle.lock_book.specs.declared.several.Turn.{Turn}
use Rattle.lock_book.specs.declared.table.Slot.{Slot}
use Rattle.lock_book.specs.declared.view.Stage.TheVariants.{Holding}
use Rattle.lock_book.specs.History.{entry, last_of, made_of, calls_by, StartsWith, IsLegal, row_at}
use Rattle.lock_book.specs.Ruled.{Fits, mine_at, seen_at, view_of}
use Rattle.lock_book.specs.Told.{IsPass, Adds, AddsAll, Meets}

-- the calls that the one slot that a seat carries names, in order
abbrev pub calls_carried : {T S C R : Type 0} → List (ℕ × Slot T S C R) → List (Entry S C R)
calls_carried [] = []
calls_carried (x ∷ xs) = made_of x.1.made

-- T is the kept type, E, I and O its environment, input and output, N, S, C and R its names, states, calls and replies,
-- and g its meanings
module _ {T E I O N S C R : Type 0} where
  -- the name of each value, in order, and the state in which it was shelved
  abbrev pub opens_of : Shelf T E I O N S C R → List (N × S)
  opens_of s = s.board.shared.key.0.value

  -- how many values the shelf has
  abbrev pub count_of : Shelf T E I O N S C R → ℕ
  count_of s = s.count

  -- how many callers the shelf has
  abbrev pub callers_of : Shelf T E I O N S C R → ℕ
  callers_of s = s.callers

module _ {T E I O N S C R : Type 0} {g : Ghosts T E I O N S C R} where
  -- the number of the pass's caller
  abbrev pub number_of : Pass T E I O N S C R g → ℕ
  number_of p = (view_of p.badge.views).from

  -- of the value at a place, the history that the pass has seen
  abbrev pub seen_of : Pass T E I O N S C R g → ℕ → List (Entry S C R)
  seen_of p i = seen_at (view_of p.badge.views) i

  -- of the value at a place, the pass's own calls
  abbrev pub mine_of : Pass T E I O N S C R g → ℕ → List (Entry S C R)
  mine_of p i = mine_at (view_of p.badge.views) 0 i

  -- how many calls that would not wait found their value with another caller
  abbrev pub misses_of : Pass T E I O N S C R g → ℕ
  misses_of p = (view_of p.badge.views).misses

  -- such a call: the pass has seen nothing new
  pub record Missed (p q : Pass T E I O N S C R g) : Type 0 where
    pub counted : misses_of q ≡ misses_of p + 1
    pub seen : (i : ℕ) → seen_of q i ≡ seen_of p i
    pub mine : (i : ℕ) → mine_of q i ≡ mine_of p i

  -- the pass is one of this shelf's, with what is always true of such a pass
  pub record Belongs (s : Shelf T E I O N S C R) (p : Pass T E I O N S C R g) : Type 0 where
    pub table : p.badge.table_id ≡ s.board.shared.table_id
    pub opens : (view_of p.badge.views).opens ≡ opens_of s
    pub callers : (view_of p.badge.views).callers ≡ callers_of s
    pub stands : IsPass g.legal (opens_of s) (callers_of s) (number_of p) (seen_of p) (mine_of p)

  -- the passes of all callers, in order of their numbers
  pub record AreAll (s : Shelf T E I O N S C R) (passes : List (Pass T E I O N S C R g)) : Type 0 where
    pub count : length passes ≡ callers_of s
    pub each : (k : ℕ) (p : Pass T E I O N S C R g) → get_elem? passes k ≡ some p → Belongs s p
    pub numbers : (k : ℕ) (p : Pass T E I O N S C R g) → get_elem? passes k ≡ some p → number_of p ≡ k

  -- what a call c with the reply r at one value made of the pass p, which is q afterwards
  abbrev pub Called : Shelf T E I O N S C R → Pass T E I O N S C R g → Pass T E I O N S C R g → ℕ → C → R → Type 0
  Called s p q at c r = Adds g.legal (opens_of s) (number_of p) (seen_of p) (mine_of p) (seen_of q) (mine_of q) at c r

  -- the pass has no seat: a turn has it
  abbrev pub IsAway : Pass T E I O N S C R g → Type 0
  IsAway p = p.badge.views ≡ []

  -- the place of a turn's value
  abbrev pub place_in : Turn T E I O N S C R g → ℕ
  place_in t = t.at

  -- the number of its caller
  abbrev pub number_in : Turn T E I O N S C R g → ℕ
  number_in t = t.seat.me.0.from

  -- the whole history of its value, as it was when the turn began
  abbrev pub begun_in : Turn T E I O N S C R g → List (Entry S C R)
  begun_in t = seen_at t.seat.me.0 t.at

  -- the calls of the turn so far, in order
  abbrev pub calls_in : Turn T E I O N S C R g → List (Entry S C R)
  calls_in t = calls_carried t.seat.me.1

  -- The seat with this view and this slot has the value `at` of the shelf, in a turn of the pass that was p when it
  -- began: it has the calls of the turn so far, which are legal after the history that the turn began with, and this
  -- begins with what the pass had seen
  pub record HasTurn (s : Shelf T E I O N S C R) (p : Pass T E I O N S C R g) (id : TableId) (me : Me (Slot T S C R) (View N S C R)) (at : ℕ) : Type 0 where
    pub table : id ≡ s.board.shared.table_id
    pub place : at < count_of s
    pub number : me.0.from ≡ number_of p
    pub opens : me.0.opens ≡ opens_of s
    pub callers : me.0.callers ≡ callers_of s
    pub one : length me.0.owns ≡ 1
    pub holds : me.0.stage ≡ Holding at
    pub has : (x : Slot T S C R) × (me.1 ≡ (at, x) ∷ []) × Fits (λ x. g.name x.value) (λ x. g.state x.value) g.legal (λ x. made_of x.made) me.0 at x
    pub stands : IsPass g.legal (opens_of s) (callers_of s) me.0.from (seen_at me.0) (mine_at me.0 0)
    pub begins : StartsWith (seen_at me.0 at) (seen_of p at)
    pub others : (j : ℕ) → j ≢ at → seen_at me.0 j ≡ seen_of p j
    pub mine : (j : ℕ) → mine_at me.0 0 j ≡ mine_of p j

  -- a turn at this shelf, of the pass that was p when it began
  abbrev pub IsTurn : Shelf T E I O N S C R → Pass T E I O N S C R g → Turn T E I O N S C R g → Type 0
  IsTurn s p t = HasTurn s p t.seat.table_id t.seat.me t.at

  -- What a call c with the reply r made of the turn t, which is u afterwards: it is the next of the turn's calls, and
  -- legal right after those before it
  pub record CalledIn (s : Shelf T E I O N S C R) (t u : Turn T E I O N S C R g) (c : C) (r : R) : Type 0 where
    pub after : S
    pub calls : calls_in u ≡ calls_in t ++ entry (number_in t) c r after ∷ []
    pub step : (o : N × S) → get_elem? (opens_of s) (place_in t) ≡ some o → g.legal o.0 (number_in t) (last_of o.1 (begun_in t ++ calls_in t)) c r after
    pub begun : begun_in u ≡ begun_in t
    pub place : place_in u ≡ place_in t
    pub number : number_in u ≡ number_in t

  -- what the calls of one turn at one value made of the pass p, which is q afterwards
  abbrev pub CalledAll : Shelf T E I O N S C R → Pass T E I O N S C R g → Pass T E I O N S C R g → ℕ → List (Entry S C R) → Type 0
  CalledAll s p q at es = AddsAll g.legal (opens_of s) (number_of p) (seen_of p) (mine_of p) (seen_of q) (mine_of q) at es

  -- what a meeting with `other` made of the pass p, which is q afterwards
  abbrev pub Met : Pass T E I O N S C R g → Pass T E I O N S C R g → Pass T E I O N S C R g → Type 0
  Met p other q = Meets (seen_of p) (mine_of p) (seen_of other) (seen_of q) (mine_of q)

  -- the number of the first of the callers whose passes were joined
  abbrev pub first_of : Joined T E I O N S C R g → ℕ
  first_of j = j.whole.me.0.from

  -- These are the passes that were joined, of the callers from the joined passes' first number on to the last: their
  -- own calls are all kept, and what is seen begins with what each had seen
  pub record IsJoined (s : Shelf T E I O N S C R) (passes : List (Pass T E I O N S C R g)) (j : Joined T E I O N S C R g) : Type 0 where
    pub table : j.whole.table_id ≡ s.board.shared.table_id
    pub opens : j.whole.me.0.opens ≡ opens_of s
    pub count : first_of j + length passes ≡ callers_of s
    pub each : (k : ℕ) (p : Pass T E I O N S C R g) → get_elem? passes k ≡ some p → Belongs s p
    pub numbers : (k : ℕ) (p : Pass T E I O N S C R g) → get_elem? passes k ≡ some p → number_of p ≡ first_of j + k
    pub owns : j.whole.me.0.owns ≡ map (λ p. row_at (view_of p.badge.views).owns 0) passes
    pub begins : (k i : ℕ) (p : Pass T E I O N S C R g) → get_elem? passes k ≡ some p → StartsWith (seen_at j.whole.me.0 i) (seen_of p i)

  -- how many values a closed shelf has left
  abbrev pub left_of : Closed T E I O N S C R g → ℕ
  left_of c = c.left

  -- the name of each value of a closed shelf, in order, and the state in which it was shelved
  abbrev pub opened_of : Closed T E I O N S C R g → List (N × S)
  opened_of c = c.note.me.0.opens

  -- of the value at a place of a closed shelf, its whole history
  abbrev pub whole_of : Closed T E I O N S C R g → ℕ → List (Entry S C R)
  whole_of c i = seen_at c.note.me.0 i

  -- What a closed shelf shows of its passes: each value's history is legal and begins with what each pass had seen; the
  -- entries of a caller are the own calls of its pass, and there are no others
  pub record Ended (s : Shelf T E I O N S C R) (passes : List (Pass T E I O N S C R g)) (c : Closed T E I O N S C R g) : Type 0 where
    pub lawful : (i : ℕ) (o : N × S) → get_elem? (opens_of s) i ≡ some o → IsLegal (g.legal o.0) o.1 (whole_of c i)
    pub begins : (n i : ℕ) (p : Pass T E I O N S C R g) → get_elem? passes n ≡ some p → StartsWith (whole_of c i) (seen_of p i)
    pub mine : (n i : ℕ) (p : Pass T E I O N S C R g) → get_elem? passes n ≡ some p → calls_by n (whole_of c i) ≡ mine_of p i
    pub no_others : (i n : ℕ) → callers_of s ≤ n → calls_by n (whole_of c i) ≡ []

-- What the calls of a shelf show, as facts about plain histories. N is a name, S a state, C a call and R a reply.
-- `seen` and `mine` give, of each value by its place, the history that a pass has seen and its own calls in it.
use Rattle.std.specs.Prelude.{◌≡◌, ◌≢◌, ℕ, ◌<◌, ◌≤◌, List, [], ◌∷◌, ◌++◌}
use mathlib.Core.Option.{some}
use lib.ListN.{get_elem?}
use Rattle.lock_book.specs.declared.view.Entry.{Entry}
use Rattle.lock_book.specs.History.{entry, last_of, calls_by, AreBy, StartsWith, IsLegal, longer}

-- of each value by its place, a history
abbrev pub Histories : Type 0 → Type 0 → Type 0 → Type 0
Histories S C R = ℕ → List (Entry S C R)

module _ {N S C R : Type 0} (legal : N → ℕ → S → C → R → S → Type 0) (opens : List (N × S)) where
  -- What is always true of a pass with the number n: what it has seen is legal, its own calls are there in order, each
  -- once, and no caller that is not one of the shelf's has a call there
  pub record IsPass (callers n : ℕ) (seen mine : Histories S C R) : Type 0 where
    pub below : n < callers
    pub lawful : (i : ℕ) (o : N × S) → get_elem? opens i ≡ some o → IsLegal (legal o.0) o.1 (seen i)
    pub own : (i : ℕ) → calls_by n (seen i) ≡ mine i
    pub bounded : (i m : ℕ) → callers ≤ m → calls_by m (seen i) ≡ []

  -- What a call c with the reply r at one value adds: the history seen afterwards begins with all that was seen before
  -- and ends with the call, which is legal at its place and one more of the caller's own; at other values nothing
  -- changes
  pub record Adds (n : ℕ) (seen mine seen' mine' : Histories S C R) (at : ℕ) (c : C) (r : R) : Type 0 where
    pub before : List (Entry S C R)
    pub after : S
    pub ends : seen' at ≡ before ++ entry n c r after ∷ []
    pub begins : StartsWith before (seen at)
    pub step : (o : N × S) → get_elem? opens at ≡ some o → legal o.0 n (last_of o.1 before) c r after
    pub mine_grows : mine' at ≡ mine at ++ entry n c r after ∷ []
    pub others_seen : (j : ℕ) → j ≢ at → seen' j ≡ seen j
    pub others_mine : (j : ℕ) → j ≢ at → mine' j ≡ mine j

  -- What the calls of one turn at one value add, in order: the history seen afterwards begins with all that was seen
  -- before and ends with these calls, with no other's between them; they are legal at their places, and are the
  -- caller's own next ones; at other values nothing changes. A turn in which no call is made shows only the history
  pub record AddsAll (n : ℕ) (seen mine seen' mine' : Histories S C R) (at : ℕ) (es : List (Entry S C R)) : Type 0 where
    pub before : List (Entry S C R)
    pub ends : seen' at ≡ before ++ es
    pub begins : StartsWith before (seen at)
    pub steps : (o : N × S) → get_elem? opens at ≡ some o → IsLegal (legal o.0) (last_of o.1 before) es
    pub by : AreBy n es
    pub mine_grows : mine' at ≡ mine at ++ es
    pub others_seen : (j : ℕ) → j ≢ at → seen' j ≡ seen j
    pub others_mine : (j : ℕ) → j ≢ at → mine' j ≡ mine j

-- How what a pass shows of one value grows by its calls. S, C and R are the value's states, calls and replies,
-- `opening` the state in which it was shelved, and n the number of the pass
module _ {S C R : Type 0} (legal : ℕ → S → C → R → S → Type 0) (opening : S) (n : ℕ) where
  -- One call: the history that is seen then begins with all that was seen before, and ends with the call, which is
  -- legal at its place and one more of the pass's own
  pub record Makes (seen mine seen' mine' : List (Entry S C R)) (c : C) (r : R) : Type 0 where
    pub before : List (Entry S C R)
    pub after : S
    pub ends : seen' ≡ before ++ entry n c r after ∷ []
    pub begins : StartsWith before seen
    pub step : legal n (last_of opening before) c r after
    pub own : mine' ≡ mine ++ entry n c r after ∷ []

  -- these calls with these replies, one after another, and no others
  abbrev pub MakesAll : (seen mine seen' mine' : List (Entry S C R)) → List (C × R) → Type 0
  MakesAll seen mine seen' mine' [] = (seen' ≡ seen) × (mine' ≡ mine)
  MakesAll seen mine seen' mine' (e ∷ es) = (s m : List (Entry S C R)) × Makes seen mine s m e.0 e.1 × MakesAll s m seen' mine' es

-- What a meeting with a pass that had seen `other` leaves: of each value the longer of the two histories, which begins
-- with both; its own calls stay
pub record Meets {S C R : Type 0} (seen mine other seen' mine' : Histories S C R) : Type 0 where
  pub longer_of_two : (i : ℕ) → seen' i ≡ longer (seen i) (other i)
  pub begins : (i : ℕ) → StartsWith (seen' i) (seen i)
  pub begins_other : (i : ℕ) → StartsWith (seen' i) (other i)
  pub same_mine : (i : ℕ) → mine' i ≡ mine i

-- The rule of a shelf's table, and what is learnt by each step.
-- X is what a slot holds, N a name, S a state, C a call and R a reply.
use Rattle.std.specs.Prelude.{◌≡◌, ◌≢◌, ℕ, ◌+◌, ◌*◌, ◌<◌, ◌≤◌, ◌==◌, if◌then◌else◌, List, [], ◌∷◌, ◌++◌, length, map, slice_index, replicate}
use mathlib.Core.Option.{some}
use lib.ListN.{get_elem?}
use Rattle.atomic_table.specs.Table.{State, Me, Step, rest}
use Rattle.lock_book.specs.declared.view.Entry.{Entry}
use Rattle.lock_book.specs.declared.view.Stage.{Stage}
use Rattle.lock_book.specs.declared.view.Stage.TheVariants.{Idle, Holding}
use Rattle.lock_book.specs.declared.view.View.{View}
use Rattle.lock_book.specs.History.{last_of, calls_by, AreBy, calls_at, StartsWith, IsLegal, row_at, put_row, longer_rows, first_row, other_rows}

-- f of each view, added up
abbrev pub total : {V : Type 0} → (V → ℕ) → List V → ℕ
total f [] = 0
total f (v ∷ vs) = f v + total f vs

-- The table has eight words for each value, a cache line, of which four are used. The first is the lock's: 0 while the
-- value is free, and else 1 + the number of the caller that has it.
abbrev pub lock_at : ℕ → ℕ
lock_at i = 8 * i

-- The other three are advice: no rule says what is in them. One says whether somebody sleeps until the value is free,
abbrev pub sleep_at : ℕ → ℕ
sleep_at i = 8 * i + 1

-- one counts what was announced of the value,
abbrev pub news_at : ℕ → ℕ
news_at i = 8 * i + 2

-- and one the callers that sleep until something is announced.
abbrev pub readers_at : ℕ → ℕ
readers_at i = 8 * i + 3

-- What the caller n may store in the lock of the value i, while its seat is at this stage: 1 + its number if it has the
-- value, and 0, which is no storing, if it has not. Only a caller that has no value may make a 0 this number, and only
-- the caller that has the value may make it 0 again.
abbrev pub named : ℕ → ℕ → Stage → ℕ
named i n Idle = 0
named i n (Holding j) = if j == i then n + 1 else 0

-- 1 if a seat at this stage has the value i, and else 0
abbrev pub holders : ℕ → Stage → ℕ
holders i Idle = 0
holders i (Holding j) = if j == i then 1 else 0

module _ {N S C R : Type 0} where
  -- the seat represents the caller n
  abbrev pub Stands : ℕ → (View N S C R) → Type 0
  Stands n v = (v.from ≤ n) × (n < v.from + length v.owns)

  -- the calls at the value i of the k-th caller that the seat represents
  abbrev pub mine_at : (View N S C R) → ℕ → ℕ → List (Entry S C R)
  mine_at v k i = calls_at i (row_at v.owns k)

  -- the history of the value i that the seat has seen
  abbrev pub seen_at : (View N S C R) → ℕ → List (Entry S C R)
  seen_at v i = row_at v.seen i

  -- the history of the value i that the seat learnt by a note
  abbrev pub told_at : (View N S C R) → ℕ → List (Entry S C R)
  told_at v i = row_at v.told i

  -- the seat at another stage
  abbrev pub at_stage : (View N S C R) → Stage → (View N S C R)
  at_stage v g = record v { stage = g }

  -- the seat at another stage, with this history of the value i seen
  abbrev pub seeing : (View N S C R) → ℕ → List (Entry S C R) → Stage → (View N S C R)
  seeing v i log g = record v { seen = put_row v.seen i log; stage = g }

  -- the one caller of the seat made these calls at the value i
  abbrev pub with_entries : (View N S C R) → ℕ → List (Entry S C R) → (View N S C R)
  with_entries v i es = record v { owns = (row_at v.owns 0 ++ map (λ e. (i, e)) es) ∷ []; seen = put_row v.seen i (seen_at v i ++ es) }

  -- the one caller of the seat made these calls at the value i and gave the value back
  abbrev pub served : (View N S C R) → ℕ → List (Entry S C R) → (View N S C R)
  served v i es = at_stage (with_entries v i es) Idle

  -- the seat tried once more, and found a value taken
  abbrev pub missing : (View N S C R) → (View N S C R)
  missing v = record v { misses = v.misses + 1 }

  -- the seat after a look: of each value it has seen the longer of what it had seen and what it had learnt
  abbrev pub merged : (View N S C R) → (View N S C R)
  merged v = record v { seen = longer_rows v.seen v.told; told = [] }

  -- the first caller's part of a seat that is cut in two
  abbrev pub first_caller : (View N S C R) → (View N S C R)
  first_caller v = record v { owns = first_row v.owns }

  -- the other callers' part
  abbrev pub other_callers : (View N S C R) → (View N S C R)
  other_callers v = record v { from = v.from + 1; owns = other_rows v.owns; stage = Idle }

  -- a seat that has seen as much and represents nobody
  abbrev pub note : (View N S C R) → (View N S C R)
  note v = record v { from = 0; owns = []; told = []; stage = Idle }

  -- the seat v once it has learnt what w has seen
  abbrev pub informed : (View N S C R) → (View N S C R) → (View N S C R)
  informed v w = record v { told = w.seen }

  -- two seats joined: the callers of v, and then those of w
  abbrev pub together : (View N S C R) → (View N S C R) → (View N S C R)
  together v w = record v { owns = v.owns ++ w.owns; seen = longer_rows v.seen w.seen; told = [] }

  -- what is left of a seat that was joined into another
  abbrev pub nobody : (View N S C R)
  nobody = record { opens = []; callers = 0; from = 0; owns = []; seen = []; told = []; stage = Idle; misses = 0 }

  -- the first seat, which represents all callers and has seen nothing
  abbrev pub newcomers : List (N × S) → ℕ → (View N S C R)
  newcomers opens callers = record { opens = opens; callers = callers; from = 0; owns = replicate callers []; seen = []; told = []; stage = Idle; misses = 0 }

  module _ (opens : List (N × S)) (callers : ℕ) (logs : ℕ → List (Entry S C R)) where
    -- what is true of a seat at a stage: a seat that has a value is of one caller, and has seen the value's whole
    -- history
    abbrev pub StageOk : (View N S C R) → Stage → Type 0
    StageOk v Idle = Unit {0}
    StageOk v (Holding i) = (length v.owns ≡ 1) × (i < length opens) × (seen_at v i ≡ logs i)

    -- what is true of the view of a seat
    pub record Knows (v : (View N S C R)) : Type 0 where
      pub opened : 0 < length v.owns → v.opens ≡ opens
      pub counted : 0 < length v.owns → v.callers ≡ callers
      pub below : 0 < length v.owns → v.from + length v.owns ≤ callers
      pub seen : (i : ℕ) → StartsWith (logs i) (seen_at v i)
      pub told : (i : ℕ) → StartsWith (logs i) (told_at v i)
      pub mine : (k i : ℕ) → k < length v.owns → mine_at v k i ≡ calls_by (v.from + k) (logs i)
      pub mine_seen : (k i : ℕ) → k < length v.owns → mine_at v k i ≡ calls_by (v.from + k) (seen_at v i)
      pub staged : StageOk v v.stage

  module _ {X : Type 0} (slot_name : X → N) (slot_state : X → S) (legal : N → ℕ → S → C → R → S → Type 0) where
    -- what is true of the value i, which opened as o and has this history: its lock's word names the one seat that has
    -- it; if that word is 0 none has it, and it is at home with its last state
    pub record ValueOk (words : List ℕ) (homes : List (mathlib.Core.Option.Option X)) (views : List (View N S C R)) (i : ℕ) (o : N × S) (log : List (Entry S C R)) : Type 0 where
      pub locked : slice_index words (lock_at i) ≡ total (λ v. named i v.from v.stage) views
      pub alone : total (λ v. holders i v.stage) views ≤ 1
      pub lawful : IsLegal (legal o.0) o.1 log
      pub at_home : total (λ v. holders i v.stage) views ≡ 0 → (x : X) × (get_elem? homes i ≡ some (some x)) × (slot_name x ≡ o.0) × (slot_state x ≡ last_of o.1 log)

    -- Each value has one legal history and at most one seat has it; at home it has its last state and its name. Each
    -- caller's entries are the calls that its seat made
    pub record Ruled (opens : List (N × S)) (callers : ℕ) (s : State X (View N S C R)) : Type 0 where
      pub logs : ℕ → List (Entry S C R)
      pub wide : length s.words ≡ 8 * length opens
      pub each_value : (i : ℕ) (o : N × S) → get_elem? opens i ≡ some o → ValueOk s.words s.homes s.views i o (logs i)
      pub bounded : (i n : ℕ) → callers ≤ n → calls_by n (logs i) ≡ []
      pub seats : total (λ v. length v.owns) s.views ≡ callers
      pub each_seat : (id : ℕ) (v : (View N S C R)) → get_elem? s.views id ≡ some v → Knows opens callers logs v
      pub numbers : (id other : ℕ) (v w : (View N S C R)) → get_elem? s.views id ≡ some v → get_elem? s.views other ≡ some w → (n : ℕ) → Stands n v → Stands n w → id ≡ other

    -- the seat has the value, and has seen its history so far
    pub record Taken (m : Me X (View N S C R)) (i : ℕ) (m' : Me X (View N S C R)) : Type 0 where
      pub log : List (Entry S C R)
      pub slot : X
      pub took : m'.1 ≡ (i, slot) ∷ m.1
      pub view : m'.0 ≡ seeing m.0 i log (Holding i)
      pub begins : StartsWith log (seen_at m.0 i)
      pub known : (o : N × S) → get_elem? m.0.opens i ≡ some o → IsLegal (legal o.0) o.1 log × (slot_name slot ≡ o.0) × (slot_state slot ≡ last_of o.1 log)
      pub mine : mine_at m.0 0 i ≡ calls_by m.0.from log
      pub bounded : (n : ℕ) → m.0.callers ≤ n → calls_by n log ≡ []

    -- The slot x, with the calls `made x` of the seat's one caller, may go back to the place i after what the seat has
    -- seen: it has the value's name, the calls are legal there, one after another, and the value has the last state
    pub record Fits (made : X → List (Entry S C R)) (v : View N S C R) (i : ℕ) (x : X) : Type 0 where
      pub by : AreBy v.from (made x)
      pub each : (o : N × S) → get_elem? v.opens i ≡ some o → (slot_name x ≡ o.0) × IsLegal (legal o.0) (last_of o.1 (seen_at v i)) (made x) × (slot_state x ≡ last_of o.1 (seen_at v i ++ made x))

    -- a try to take the value: if the word found is 0 the seat has it, and else nothing changed
    abbrev pub tried : Step X → Me X (View N S C R) → ℕ → Me X (View N S C R) → Type 0
    tried st m r m' = (i : ℕ) → st.word ≡ lock_at i → (r ≡ 0 → Taken m i m') × (r ≢ 0 → m' ≡ m)

    -- a single try to take the value: if the word found is 0 the seat has it, and else another has it, and the try is
    -- counted
    abbrev pub tried_once : Step X → Me X (View N S C R) → ℕ → Me X (View N S C R) → Type 0
    tried_once st m r m' = (i : ℕ) → st.word ≡ lock_at i → (r ≡ 0 → Taken m i m') × (r ≢ 0 → m' ≡ (missing m.0, m.1))

    -- what was seen and what was learnt are beginnings of one legal history, and the longer of the two is seen
    pub record Looks (v w : (View N S C R)) : Type 0 where
      pub view : w ≡ merged v
      pub seen : (i : ℕ) → StartsWith (seen_at w i) (seen_at v i)
      pub told : (i : ℕ) → StartsWith (seen_at w i) (told_at v i)
      pub lawful : 0 < length v.owns → (i : ℕ) (o : N × S) → get_elem? v.opens i ≡ some o → IsLegal (legal o.0) o.1 (seen_at w i)
      pub mine : (k i : ℕ) → k < length v.owns → mine_at v k i ≡ calls_by (v.from + k) (seen_at w i)
      pub bounded : 0 < length v.owns → (i n : ℕ) → v.callers ≤ n → calls_by n (seen_at w i) ≡ []

    -- a load that changes nothing but what the seat has seen
    abbrev pub looked : Step X → Me X (View N S C R) → ℕ → Me X (View N S C R) → Type 0
    looked st m r m' = (m'.1 ≡ m.1) × Looks m.0 m'.0

-- the calls that the slot names are in the history, in order, the value went back, and the seat has none
abbrev pub given_back : {X N S C R : Type 0} → (X → List (Entry S C R)) → Step X → Me X (View N S C R) → ℕ → Me X (View N S C R) → Type 0
given_back {X} made st m r m' = (i : ℕ) (x : X) → st.word ≡ lock_at i → m.1 ≡ (i, x) ∷ [] → (m'.1 ≡ rest m.1) × (m'.0 ≡ served m.0 i (made x))

-- a step on a word of advice: the seat stays as it was
abbrev pub advised : {X V : Type 0} → Step X → Me X V → ℕ → Me X V → Type 0
advised st m r m' = m' ≡ m

-- what the seat of all callers has seen at the end: of each value a legal history, in which the calls of each caller
-- are its own and there are no others
pub record AllSeen {N S C R : Type 0} (legal : N → ℕ → S → C → R → S → Type 0) (opens : List (N × S)) (callers : ℕ) (v : View N S C R) : Type 0 where
  pub lawful : (i : ℕ) (o : N × S) → get_elem? opens i ≡ some o → IsLegal (legal o.0) o.1 (seen_at v i)
  pub mine : (n i : ℕ) → n < callers → mine_at v n i ≡ calls_by n (seen_at v i)
  pub no_others : (i n : ℕ) → callers ≤ n → calls_by n (seen_at v i) ≡ []

module _ {N S C R : Type 0} where
  -- the seat of one caller, which has no value
  pub record IsFree (v : View N S C R) : Type 0 where
    pub owns : length v.owns ≡ 1
    pub stage : v.stage ≡ Idle

  -- the second view is of a seat of the same caller at the same shelf
  pub record IsSame (v w : View N S C R) : Type 0 where
    pub opens : w.opens ≡ v.opens
    pub callers : w.callers ≡ v.callers
    pub from : w.from ≡ v.from
    pub free : IsFree w

  -- the seat of this many callers from the one with this number on, which have made no call
  abbrev pub fresh_pass : List (N × S) → ℕ → ℕ → ℕ → View N S C R
  fresh_pass opens callers from count = record { opens = opens; callers = callers; from = from; owns = replicate count []; seen = []; told = []; stage = Idle; misses = 0 }

-- a number for each stage, 0 for none
abbrev pub stage_number : Stage → ℕ
stage_number Idle = 0
stage_number (Holding i) = 1

-- the view of a pass, which has one
abbrev pub view_of : {N S C R : Type 0} → List (View N S C R) → View N S C R
view_of [] = nobody
view_of (v ∷ vs) = v

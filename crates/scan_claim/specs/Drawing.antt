-- What the seats have drawn, and the rule of the counter's table.
use Rattle.std.specs.Prelude.{◌≡◌, ℕ, zero, suc, ◌+◌, ◌-◌, ◌^◌, ◌<◌, ◌≤◌, ◌==◌, Bool, ltb, if◌then◌else◌, List, [], ◌∷◌, ◌++◌, length, slice_index, replicate}
use mathlib.Core.Option.{some}
use lib.ListN.{get_elem?}
use Rattle.atomic_table.specs.Table.{State, Me, Step}
use Rattle.scan_claim.specs.declared.view.Draws.{Draws}

-- how often x comes in the list
abbrev pub times : ℕ → List ℕ → ℕ
times x [] = 0
times x (y ∷ ys) = (if y == x then 1 else 0) + times x ys

-- how many numbers of the list are not below the blocks
abbrev pub late : ℕ → List ℕ → ℕ
late blocks [] = 0
late blocks (y ∷ ys) = (if ltb y blocks then 0 else 1) + late blocks ys

-- the lists, one after another
abbrev pub flat : List (List ℕ) → List ℕ
flat [] = []
flat (l ∷ ls) = l ++ flat ls

-- the numbers below n, in order
abbrev pub below : ℕ → List ℕ
below zero = []
below (suc n) = below n ++ n ∷ []

-- 1 if x is below n, and else 0
abbrev pub once_below : ℕ → ℕ → ℕ
once_below x n = if ltb x n then 1 else 0

-- f of each view, added up
abbrev pub total : (Draws → ℕ) → List Draws → ℕ
total f [] = 0
total f (v ∷ vs) = f v + total f vs

-- no list has two numbers that are not below the blocks
abbrev pub EndsOnce : ℕ → List (List ℕ) → Type 0
EndsOnce blocks [] = Unit {0}
EndsOnce blocks (l ∷ ls) = (late blocks l ≤ 1) × EndsOnce blocks ls

-- if there is only one list, it has the numbers below n, in order
abbrev pub InOrder : ℕ → List (List ℕ) → Type 0
InOrder n [] = Unit {0}
InOrder n (l ∷ []) = l ≡ below n
InOrder n (l ∷ k ∷ ls) = Unit {0}

-- all numbers that the callers of a seat drew
abbrev pub all_of : Draws → List ℕ
all_of v = flat v.lists

-- how many callers a seat represents
abbrev pub seats_of : Draws → ℕ
seats_of v = length v.lists

-- the view with these fields
abbrev pub drawn : ℕ → ℕ → ℕ → List (List ℕ) → Draws
drawn blocks callers from lists = record { blocks = blocks; callers = callers; from = from; lists = lists }

-- the view with other lists
abbrev pub with_lists : Draws → List (List ℕ) → Draws
with_lists v ls = drawn v.blocks v.callers v.from ls

-- what is known of the view of a seat that represents a caller or more
abbrev pub Knows : ℕ → ℕ → ℕ → Draws → Type 0
Knows blocks callers n v = 0 < length v.lists → (v.blocks ≡ blocks) × (v.callers ≡ callers) × EndsOnce blocks v.lists × (callers ≡ 1 → InOrder n v.lists)

-- The rule of the counter. The word is the number of draws made; each number below it is in the lists once, and no
-- other is; there is one list for each caller, and each has at most one number that is not below the blocks
pub record Counts (blocks callers : ℕ) (s : State (Unit {0}) Draws) : Type 0 where
  pub wide : length s.words ≡ 1
  pub small : (blocks ≤ 2 ^ 32) × (callers < 2 ^ 32)
  pub once : (x : ℕ) → total (λ v. times x (all_of v)) s.views ≡ once_below x (slice_index s.words 0)
  pub seats : total seats_of s.views ≡ callers
  pub ends : total (λ v. late blocks (all_of v)) s.views ≡ slice_index s.words 0 - blocks
  pub made : total (λ v. length (all_of v)) s.views ≡ slice_index s.words 0
  pub each : (id : ℕ) (v : Draws) → get_elem? s.views id ≡ some v → Knows blocks callers (slice_index s.words 0) v

-- a seat of the counter: its view, and no slots
abbrev pub Sat : Type 0
Sat = Me (Unit {0}) Draws

-- the numbers of a seat of one caller, and then the number that it found
abbrev pub one_more : Draws → ℕ → Draws
one_more v r = with_lists v ((flat v.lists ++ r ∷ []) ∷ [])

-- a seat of one caller drew the number r that it found. If there is one caller in all, it had the numbers below
pub record Drew (v : Draws) (r : ℕ) (w : Draws) : Type 0 where
  pub more : w ≡ one_more v r
  pub few : length (flat v.lists) + 1 ≤ v.blocks + v.callers
  pub order : v.callers ≡ 1 → flat v.lists ≡ below r

-- what is learnt by a draw
abbrev pub drew : Step (Unit {0}) → Sat → ℕ → Sat → Type 0
drew st m r m' = (m'.1 ≡ m.1) × Drew m.0 r m'.0

-- The lists of all callers: n draws were made, each number below n was drawn once, and no other was. No list has two
-- numbers that are not below the blocks, so n is at most the blocks and the callers together
pub record IsDrawn (blocks : ℕ) (lists : List (List ℕ)) (n : ℕ) : Type 0 where
  pub draws : length (flat lists) ≡ n
  pub once : (x : ℕ) → times x (flat lists) ≡ once_below x n
  pub past : late blocks (flat lists) ≡ n - blocks
  pub ends : EndsOnce blocks lists
  pub few : n ≤ blocks + length lists

-- what the seat that represents all callers learns by a load
abbrev pub counted : Step (Unit {0}) → Sat → ℕ → Sat → Type 0
counted st m r m' = (m'.1 ≡ m.1) × (m'.0 ≡ m.0) × (0 < length m.0.lists → length m.0.lists ≡ m.0.callers → IsDrawn m.0.blocks m.0.lists r)

-- the first of some lists, if there is one
abbrev pub first_list : List (List ℕ) → List (List ℕ)
first_list [] = []
first_list (l ∷ ls) = l ∷ []

-- all lists but the first
abbrev pub other_lists : List (List ℕ) → List (List ℕ)
other_lists [] = []
other_lists (l ∷ ls) = ls

-- a seat cut in two: the first caller, and the others
abbrev pub first_caller : Draws → Draws
first_caller v = with_lists v (first_list v.lists)

abbrev pub other_callers : Draws → Draws
other_callers v = drawn v.blocks v.callers (v.from + 1) (other_lists v.lists)

-- two seats joined
abbrev pub together : Draws → Draws → Draws
together v w = with_lists v (v.lists ++ w.lists)

-- the view of a seat that was joined into another
abbrev pub nobody : Draws
nobody = drawn 0 0 0 []

-- the first seat, which represents all callers and has drawn nothing
abbrev pub newcomers : ℕ × ℕ → Draws
newcomers k = drawn k.0 k.1 0 (replicate k.1 [])

-- a number of the list is not below the blocks
abbrev pub is_spent : ℕ → List ℕ → Bool
is_spent blocks l = ltb 0 (late blocks l)

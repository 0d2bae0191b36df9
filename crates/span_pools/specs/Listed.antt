-- The objects of one superblock: which are free, and the list that is threaded through those that were used before.
use Rattle.std.specs.Prelude.{◌≡◌, ℕ, zero, suc, ◌+◌, ◌<◌, ◌≤◌, ◌⊎◌, Bool, true, cond, List, [], ◌∷◌, Option, Some, is_some}

-- how many of the first n objects are free
abbrev pub free_count : (ℕ → Bool) → ℕ → ℕ
free_count free zero = 0
free_count free (suc n) = cond {A = ℕ} (free n) 1 0 + free_count free n

-- i is in the list
abbrev pub IsIn : ℕ → List ℕ → Type 0
IsIn i [] = ⊥
IsIn i (x ∷ xs) = (i ≡ x) ⊎ IsIn i xs

-- no number is in the list twice
abbrev pub Once : List ℕ → Type 0
Once [] = Unit {0}
Once (x ∷ xs) = (IsIn x xs → ⊥) × Once xs

-- The list of free objects, of which each has the place of the next in its first word, and the last has 0
-- (NextFreeObjectIndex of dsa.c, which stores the next one's number)
abbrev pub Chain : (ℕ → ℕ) → (ℕ → Option ℕ) → ℕ → List ℕ → Type 0
Chain place word head [] = head ≡ 0
Chain place word head (i ∷ is) = (head ≡ place i) × ((next : ℕ) × (word i ≡ Some next) × Chain place word next is)

-- A superblock's record says how many objects are free, where their list begins, and how many objects were used before:
-- a free object is on the list, or was never used (as in dsa.c). `place i` is the place of object i, and `word i` is
-- the value of its first word, if the pool has it: then the object is free
pub record IsListed (objects : ℕ) (place : ℕ → ℕ) (word : ℕ → Option ℕ) (room head used : ℕ) : Type 0 where
  pub listed : List ℕ
  pub few : used ≤ objects
  pub fresh : (i : ℕ) → used ≤ i → i < objects → is_some (word i) ≡ true
  pub chain : Chain place word head listed
  pub once : Once listed
  pub below : (i : ℕ) → IsIn i listed → i < used
  pub all : (i : ℕ) → i < used → is_some (word i) ≡ true → IsIn i listed
  pub count : room ≡ free_count (λ i. is_some (word i)) objects

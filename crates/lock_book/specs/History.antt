-- Histories: lists of entries, and what a caller has seen of them.
use Rattle.std.specs.Prelude.{◌≡◌, ℕ, zero, suc, ◌==◌, ltb, if◌then◌else◌, List, [], ◌∷◌, ◌++◌, length, Option, Some, None}
use Rattle.lock_book.specs.declared.noted.Noted.{Noted}
use Rattle.lock_book.specs.declared.view.Entry.{Entry}

module _ {S C R : Type 0} where
  -- the entry with these parts
  abbrev pub entry : ℕ → C → R → S → Entry S C R
  entry n c r s = record { by = n; call = c; reply = r; after = s }

  -- the state after all entries
  abbrev pub last_of : S → List (Entry S C R) → S
  last_of s [] = s
  last_of s (e ∷ es) = last_of e.after es

  -- the entries of one caller
  abbrev pub calls_by : ℕ → List (Entry S C R) → List (Entry S C R)
  calls_by n [] = []
  calls_by n (e ∷ es) = if e.by == n then (e ∷ calls_by n es) else calls_by n es

  -- the entries are those of one caller
  abbrev pub AreBy : ℕ → List (Entry S C R) → Type 0
  AreBy n [] = Unit {0}
  AreBy n (e ∷ es) = (e.by ≡ n) × AreBy n es

  -- the calls at one value
  abbrev pub calls_at : ℕ → List (ℕ × Entry S C R) → List (Entry S C R)
  calls_at i [] = []
  calls_at i (e ∷ es) = if e.0 == i then (e.1 ∷ calls_at i es) else calls_at i es

  -- the second list begins the first
  abbrev pub StartsWith : List (Entry S C R) → List (Entry S C R) → Type 0
  StartsWith log seen = (rest : List (Entry S C R)) × (log ≡ seen ++ rest)

  -- each entry's reply and state are what its caller's call may give at that point
  abbrev pub IsLegal : (ℕ → S → C → R → S → Type 0) → S → List (Entry S C R) → Type 0
  IsLegal legal s [] = Unit {0}
  IsLegal legal s (e ∷ es) = legal e.by s e.call e.reply e.after × IsLegal legal e.after es

  -- the longer of two lists, and the first if they are equally long
  abbrev pub longer : List (Entry S C R) → List (Entry S C R) → List (Entry S C R)
  longer xs ys = if ltb (length xs) (length ys) then ys else xs

-- the list at a place, which is empty past the end
abbrev pub row_at : {A : Type 0} → List (List A) → ℕ → List A
row_at [] i = []
row_at (x ∷ xs) zero = x
row_at (x ∷ xs) (suc i) = row_at xs i

-- the lists with another at one place; those that are left out before it are empty
abbrev pub put_row : {A : Type 0} → List (List A) → ℕ → List A → List (List A)
put_row [] zero y = y ∷ []
put_row [] (suc i) y = [] ∷ put_row [] i y
put_row (x ∷ xs) zero y = y ∷ xs
put_row (x ∷ xs) (suc i) y = x ∷ put_row xs i y

-- only the first list
abbrev pub first_row : {A : Type 0} → List A → List A
first_row [] = []
first_row (l ∷ ls) = l ∷ []

-- all lists but the first
abbrev pub other_rows : {A : Type 0} → List A → List A
other_rows [] = []
other_rows (l ∷ ls) = ls

-- of each place the longer list
abbrev pub longer_rows : {S C R : Type 0} → List (List (Entry S C R)) → List (List (Entry S C R)) → List (List (Entry S C R))
longer_rows [] ys = ys
longer_rows (x ∷ xs) [] = x ∷ xs
longer_rows (x ∷ xs) (y ∷ ys) = longer x y ∷ longer_rows xs ys

-- the calls of a slot's turn so far, in order
abbrev pub made_of : {S C R : Type 0} → Option (Noted (List (Entry S C R))) → List (Entry S C R)
made_of None = []
made_of (Some entries) = entries.value

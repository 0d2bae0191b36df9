-- A counter's calls.
use Rattle.std.specs.Prelude.{◌≡◌, ℕ, ◌+◌, ◌%◌, List, [], ◌∷◌, ◌++◌, length}
use Rattle.lock_book.specs.declared.view.Entry.{Entry}
use Rattle.lock_book.specs.History.{IsLegal}

-- the call k replies the sum so far, and leaves the sum with k added, modulo 2^64
abbrev pub AddsTo : ℕ → ℕ → ℕ → ℕ → Type 0
AddsTo s k r t = (r ≡ s) × (t ≡ (s + k) % 18446744073709551616)

-- a legal history of a counter that opened at 0
abbrev pub IsCount : List (Entry ℕ ℕ ℕ) → Type 0
IsCount es = IsLegal (λ _ s k r t. AddsTo s k r t) 0 es

-- the numbers that these calls add, added up
abbrev pub total_of : List (Entry ℕ ℕ ℕ) → ℕ
total_of [] = 0
total_of (e ∷ es) = e.call + total_of es

-- The history that is seen ends with this many calls, with no others between them, which add 1 each and are the
-- caller's own next ones
pub record EndsWithAdds (seen mine mine' : List (Entry ℕ ℕ ℕ)) (times : ℕ) : Type 0 where
  pub before : List (Entry ℕ ℕ ℕ)
  pub calls : List (Entry ℕ ℕ ℕ)
  pub ends : seen ≡ before ++ calls
  pub own : mine' ≡ mine ++ calls
  pub count : length calls ≡ times
  pub total : total_of calls ≡ times

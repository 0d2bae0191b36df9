-- What an operation makes of all entries of a history, and of those of each caller.
use Rattle.std.specs.Prelude.{◌≡◌, ℕ, zero, suc, List, [], ◌∷◌}
use Rattle.lock_book.specs.declared.view.Entry.{Entry}
use Rattle.lock_book.specs.History.{calls_by}

-- a commutative monoid: what the operation puts together depends on neither order nor grouping, and the unit adds
-- nothing
pub record IsCommutativeMonoid {M : Type 0} (op : M → M → M) (unit : M) : Type 0 where
  pub unit_first : (a : M) → op unit a ≡ a
  pub associative : (a b c : M) → op (op a b) c ≡ op a (op b c)
  pub commutative : (a b : M) → op a b ≡ op b a

module _ {S C R M : Type 0} (op : M → M → M) (unit : M) (f : Entry S C R → M) where
  -- f of each entry, put together
  abbrev pub folded : List (Entry S C R) → M
  folded [] = unit
  folded (x ∷ xs) = op (f x) (folded xs)

  -- the same, of the callers below a number, one after another
  abbrev pub folded_below : ℕ → List (Entry S C R) → M
  folded_below zero xs = unit
  folded_below (suc n) xs = op (folded_below n xs) (folded (calls_by n xs))

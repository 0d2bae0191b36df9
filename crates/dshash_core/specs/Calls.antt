-- A call that was made, on the chains and on the map that they represent.
use Rattle.std.specs.Prelude.{◌≡◌, ℕ, Bool, true, false, List, Option, is_some}
use Rattle.dshash_core.specs.Hung.{Hung}
use Rattle.dshash_core.specs.Cells.{AreCells, cells_of}
use Rattle.dshash_core.specs.Outcome.{IsDone, IsNeedItem, IsTooFull}
use Rattle.dshash_core.specs.declared.outcome.CoreOut.{CoreOut}
use Rattle.dshash_core.specs.declared.outcome.CoreOut.TheVariants.{Done, NeedItem, TooFull}

-- the chains `new` with `after` items are those of `old` after the call
pub record IsCalled {S C R : Type 0} (step : Option S → C → Option S × R) (decoded : List ℕ → S) (size after value_words : ℕ) (old new : Hung) (key : List ℕ) (call : C) (spare : Bool) (reply : R) (unused freed : Bool) : Type 0 where
  pub same : new ≡ record old { chains = new.chains }
  pub cells : AreCells size after value_words new
  pub done : IsDone step size (cells_of decoded old.chains) key call spare reply unused freed (cells_of decoded new.chains)

-- the call took an entry out of the chains `old` with `count` items, whatever their size: it was made of the entry's key
-- without a spare item, and left `new` with `after` items
abbrev pub IsTakenBy : {S C R : Type 0} → (Option S → C → Option S × R) → (List ℕ → S) → ℕ → Hung → ℕ → Hung → ℕ → List ℕ → C → R → Type 0
IsTakenBy step decoded value_words old count new after key call reply =
    (size : ℕ) → AreCells size count value_words old → IsCalled step decoded size after value_words old new key call false reply false true

-- the call of a partition of a size with `count` keys was answered: made, or refused and nothing has changed
abbrev pub IsAnswered : {O D S C R : Type 0} → (Option S → C → Option S × R) → (List ℕ → S) → ℕ → ℕ → ℕ → ℕ → Hung → Hung → List ℕ → C → Bool → CoreOut O S D R → Type 0
IsAnswered step decoded size count after value_words old new key call spare (Done reply unused freed) = IsCalled step decoded size after value_words old new key call spare reply (is_some unused) (is_some freed)
IsAnswered step decoded size count after value_words old new key call spare NeedItem = (new ≡ old) × (after ≡ count) × IsNeedItem step size (cells_of decoded old.chains) key call spare (cells_of decoded old.chains)
IsAnswered step decoded size count after value_words old new key call spare (TooFull told back) = (new ≡ old) × (after ≡ count) × IsTooFull step size (cells_of decoded old.chains) key call spare told (is_some back) (cells_of decoded old.chains)

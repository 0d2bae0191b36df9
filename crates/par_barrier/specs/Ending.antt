-- What a closed barrier shows.
use Rattle.std.specs.Prelude.{◌≡◌, ℕ, ◌≤◌, List, []}
use mathlib.Core.Option.{some}
use lib.ListN.{get_elem?}
use Rattle.lock_book.specs.History.{StartsWith, calls_by}
use Rattle.lock_book.specs.Shown as shelf
use Rattle.par_barrier.specs.declared.barrier.Barrier.{Barrier}
use Rattle.par_barrier.specs.declared.barrier.BarrierPass.{BarrierPass}
use Rattle.par_barrier.specs.declared.close.ClosedBarrier.{ClosedBarrier}
use Rattle.par_barrier.specs.Phases.{IsHistory}
use Rattle.par_barrier.specs.Shown.{History, callers_of, history_of, own_of}

-- the whole history of a closed barrier
abbrev pub whole_of : ClosedBarrier → History
whole_of c = shelf.whole_of c.shelf 0

-- The barrier with these passes was closed. Its whole history is legal and begins with what each pass had seen; the
-- entries of a caller are the own calls of its pass, and there are no others
pub record Ended (b : Barrier) (passes : List BarrierPass) (c : ClosedBarrier) : Type 0 where
  pub lawful : IsHistory (whole_of c)
  pub begins : (n : ℕ) (p : BarrierPass) → get_elem? passes n ≡ some p → StartsWith (whole_of c) (history_of p)
  pub mine : (n : ℕ) (p : BarrierPass) → get_elem? passes n ≡ some p → calls_by n (whole_of c) ≡ own_of p
  pub no_others : (n : ℕ) → callers_of b ≤ n → calls_by n (whole_of c) ≡ []

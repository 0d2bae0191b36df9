use Rattle.std.proofs.Common.{◌≡◌, ◌++◌, ℕ, ℤ, List, Option, drop, length, pos, take}
use Rattle.std.specs.List.{AllByRecursion}
use Rattle.row_lists.specs.Carried.{IsValue, values_bytes}
use Rattle.row_lists.proofs.cursor.read_values.Given as goal

abbrev pub invariant-loop-at : goal.invariant-loop-at
invariant-loop-at l = (written : List (Option ℤ)) (more : List ℕ) → AllByRecursion IsValue written → length written ≡ length l.fn.values → l.bytes ≡ values_bytes (pos 0) written ++ more
    → (take l.at l.values ≡ take l.at written) × (l.rest ≡ values_bytes l.last (drop l.at written) ++ more)

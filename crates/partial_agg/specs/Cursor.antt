-- Rows that are given one after another, and what was added of them.
use Rattle.std.specs.Prelude.{◌≡◌, ◌≤◌, ℕ, List, All, ⊤, drop, length, take}
use Rattle.par_model.specs.Plan.{Plan}
use Rattle.partial_agg.specs.Groups.{GroupsByKey, with_rows}
use Rattle.partial_agg.specs.Rows.{IsAccepted}
use Rattle.partial_agg.specs.declared.map.BlockAnswer.{BlockAnswer}
use Rattle.partial_agg.specs.declared.map.BlockAnswer.TheVariants as answer

-- an answer that names a row is given only if some of these rows is refused; out of memory says nothing
abbrev pub SomeRefused : Plan → ℕ → List (List (List ℕ)) → BlockAnswer → Type 0
SomeRefused plan width rows (answer.Row row cause item) = All (IsAccepted plan width) rows → ⊥
SomeRefused plan width rows answer.Memory = ⊤

-- the map after this many of some rows, none of which is refused, and the rows that are left
pub record AddedSome (plan : Plan) (width : ℕ) (all : List (List (List ℕ))) (count : ℕ) (left : List (List (List ℕ))) (old new : GroupsByKey) : Type 0 where
  pub within : count ≤ length all
  pub rest : left ≡ drop count all
  pub accepted : All (IsAccepted plan width) (take count all)
  pub added : new ≡ with_rows plan old (take count all)

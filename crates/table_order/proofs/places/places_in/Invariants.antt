use Rattle.std.proofs.Common.{◌≡◌, ◌∷◌, ℕ, List, length}
use Rattle.par_model.specs.Table.{table_text}
use Rattle.table_order.specs.Places.{column_places}
use Rattle.table_order.proofs.places.places_in.Given as goal

abbrev pub invariant-loop-left : goal.invariant-loop-left
invariant-loop-left l = (header : List (List ℕ)) (rows : List (List (List ℕ))) → l.text ≡ table_text (header ∷ rows) → (more : List (List (List ℕ))) × (l.left ≡ table_text more) × (column_places l.column more ≡ column_places l.column rows)

abbrev pub decreases-loop-left : goal.decreases-loop-left
decreases-loop-left l = length l.left

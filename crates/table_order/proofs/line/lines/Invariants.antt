use Rattle.std.proofs.Common.{◌≡◌, ◌++◌, ℕ, List, length, map}
use Rattle.csv.specs.Writing.{default_writer, row_text}
use Rattle.par_model.specs.Table.{table_text}
use Rattle.table_order.proofs.line.lines.Given as goal

abbrev pub invariant-loop-left : goal.invariant-loop-left
invariant-loop-left l = (table : List (List (List ℕ))) → l.text ≡ table_text table
    → (more : List (List (List ℕ))) × (l.left ≡ table_text more) × (map (λ line. line.now) l.lines.items ++ map (row_text default_writer) more ≡ map (row_text default_writer) table)

abbrev pub decreases-loop-left : goal.decreases-loop-left
decreases-loop-left l = length l.left

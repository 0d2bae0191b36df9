use Rattle.std.proofs.Common.{[], length}
use Rattle.table_form.specs.Tsv.{tsv_row}
use Rattle.table_form.proofs.Walks.{Walks}
use Rattle.table_form.proofs.tsv.as_tsv.Given as goal

-- what is left of the text, and what was put of the rows before it
abbrev pub invariant-rows : goal.invariant-rows
invariant-rows l = Walks tsv_row l.text l.left [] l.out.items

abbrev pub decreases-rows : goal.decreases-rows
decreases-rows l = length l.left

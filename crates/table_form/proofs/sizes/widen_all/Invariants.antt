use Rattle.std.proofs.Common.{length}
use Rattle.table_form.proofs.Widths.{Widens}
use Rattle.table_form.proofs.sizes.widen_all.Given as goal

-- what is left of the text, and the sizes by the rows before it
abbrev pub invariant-rows : goal.invariant-rows
invariant-rows l = Widens l.text l.left l.fn.sizes.items l.sizes.items

abbrev pub decreases-rows : goal.decreases-rows
decreases-rows l = length l.left

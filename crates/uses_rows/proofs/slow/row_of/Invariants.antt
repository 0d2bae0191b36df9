use Rattle.std.proofs.Common.{◌≡◌, length}
use Rattle.uses_rows.proofs.slow.row_of.Given as goal

abbrev pub invariant-texts : goal.invariant-texts
invariant-texts l = length l.fields.items ≡ l.text-index

use Rattle.std.proofs.Common.{◌≡◌, All, length}
use Rattle.uses_rows.proofs.slow.table_of.Given as goal

abbrev pub invariant-texts : goal.invariant-texts
invariant-texts l = All (λ row. length row ≡ 3) l.rows.items

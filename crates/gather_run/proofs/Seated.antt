-- The leader has not used its passes of the table of groups at first.
use Rattle.std.proofs.Common.{ℕ, Option, Some, None}
use Rattle.agg_table.specs.Shown.{IsHashSeat, use_in}
use Rattle.agg_table.specs.declared.part.HashPart.{HashPart}
use Rattle.agg_table.specs.declared.part.HashSeat.{HashSeat}
use Rattle.atomic_table.specs.Seated.{TableId}
use Rattle.parallel_ctx.specs.Accounts.{IsUnusedTable}

pub unused_at_first : (region : TableId) (number : ℕ) (p : Option HashPart) (s : Option HashSeat) → IsHashSeat region number p s → IsUnusedTable (use_in s)
unused_at_first region number None None h = tt
unused_at_first region number None (Some s) h = absurd h
unused_at_first region number (Some p) None h = absurd h
unused_at_first region number (Some p) (Some s) h = h.2.turns

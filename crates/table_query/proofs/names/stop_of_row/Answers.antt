use Rattle.std.proofs.Common.{inl, refl}
use Rattle.table_query.proofs.names.stop_of_row.Goals as goal

pub returns-in-Ok : goal.returns-in-Ok
returns-in-Ok c = inl (c.in-Ok.cause, refl, c.in-Ok.ensures)

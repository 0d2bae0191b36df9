use Rattle.std.proofs.Common.{inl, refl}
use Rattle.stream_groups.proofs.rows.stop_of_row.Goals as goal

pub returns-in-Ok : goal.returns-in-Ok
returns-in-Ok c = inl (_, refl, record { row = refl; why = refl; header = c.in-Ok.ensures.header; says = c.in-Ok.ensures.says })

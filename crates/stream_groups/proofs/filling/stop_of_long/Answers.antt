use Rattle.std.proofs.Common.{inl, refl}
use Rattle.stream_groups.proofs.filling.stop_of_long.Goals as goal

pub returns-in-Ok : goal.returns-in-Ok
returns-in-Ok c = inl (c.in-Ok.place.line, c.in-Ok.place.said, refl, c.in-Ok.ensures)

use Rattle.std.proofs.Common.{◌∙◌}
use Rattle.dsa_area.proofs.Chunks.{size_24}
use Rattle.uses_area.proofs.areas.two.take_and_give.Goals as goal

pub write_and_read-read-requires-clause-three : goal.write_and_read-read-requires-clause-three
write_and_read-read-requires-clause-three g c = c.in-Ok.ensures.size ∙ size_24

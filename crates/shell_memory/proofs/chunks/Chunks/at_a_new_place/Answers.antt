use Rattle.std.proofs.Common.{sym}
use Rattle.shell_memory.proofs.chunks.Chunks.at_a_new_place.Goals as goal

pub begin_apart-requires-clause-here : goal.begin_apart-requires-clause-here
begin_apart-requires-clause-here c = (c.requires.here, c.requires.chunks.here c.as_slice.result.now c.in-Some-remove.other (sym c.in-Some-remove.ensures.value))

pub begin_apart-requires-clause-some : goal.begin_apart-requires-clause-some
begin_apart-requires-clause-some c = (c.requires.some, c.requires.chunks.some c.as_slice.result.now c.in-Some-remove.other (sym c.in-Some-remove.ensures.value))

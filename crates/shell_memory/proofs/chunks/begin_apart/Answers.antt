use Rattle.std.proofs.Common.{◌/◌}
use Rattle.shell_memory.proofs.Apart.{begin-apart, some-words}
use Rattle.shell_memory.proofs.chunks.begin_apart.Goals as goal

pub returns : goal.returns
returns c =
    let one = c.args.one in
    let two = c.args.other in
    begin-apart one.part.words two.part.words one.at two.at (one.bytes / 8) (two.bytes / 8) one.just two.just (some-words one.bytes c.requires.some.0 one.whole) (some-words two.bytes c.requires.some.1 two.whole) c.join.ensures.apart

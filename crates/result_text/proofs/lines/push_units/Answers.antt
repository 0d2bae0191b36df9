use Rattle.std.proofs.lemmas.Int.{to_z-of_z}
use Rattle.std.specs.Int.{w128}
use Rattle.result_text.proofs.Numbers.{bare_text}
use Rattle.result_text.proofs.lines.push_units.Goals as goal

pub returns-then-places-eq0 : goal.returns-then-places-eq0
returns-then-places-eq0 c =
    let same = to_z-of_z w128 c.args.n c.ranges.n in
    rw (c.if-places-eq0.true, bare_text c.args.n) (rw same at c.push_integer.ensures)

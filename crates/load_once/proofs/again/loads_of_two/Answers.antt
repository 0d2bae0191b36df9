use Rattle.std.proofs.Common.{refl}
use Rattle.load_once.proofs.again.loads_of_two.Goals as goal

pub square-first-requires-clause-own : goal.square-first-requires-clause-own
square-first-requires-clause-own g c = c.in_ok-loader.ensures.all.each 0 c.in_ok-loader.pass refl

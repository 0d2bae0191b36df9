use Rattle.std.proofs.Common.{refl}
use Rattle.gen_query.specs.Generator.{next_of}
use Rattle.gen_query.proofs.generator.next_of.Goals as goal

pub returns : goal.returns
unfolding next_of
returns c = refl

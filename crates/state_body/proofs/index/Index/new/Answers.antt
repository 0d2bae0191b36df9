use Rattle.std.proofs.Common.{refl}
use Rattle.state_body.proofs.Indexes.{index_none}
use Rattle.state_body.proofs.index.Index.new.Goals as goal

pub returns-clause-none : goal.returns-clause-none
returns-clause-none c = λ kinds. index_none kinds c.args.at _ c.new.ensures.items refl refl refl

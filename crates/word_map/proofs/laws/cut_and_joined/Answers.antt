use Rattle.word_map.proofs.Maps.{union-cuts, rest-range_disjoint}
use Rattle.word_map.proofs.laws.cut_and_joined.Goals as goal

pub returns-clause-same : goal.returns-clause-same
returns-clause-same c = union-cuts

pub returns-clause-apart : goal.returns-clause-apart
returns-clause-apart c = rest-range_disjoint

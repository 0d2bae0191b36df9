use Rattle.word_map.proofs.Maps.{range-union, rest-union}
use Rattle.word_map.proofs.laws.joined_and_cut.Goals as goal

pub returns-clause-row : goal.returns-clause-row
returns-clause-row c = range-union

pub returns-clause-others : goal.returns-clause-others
returns-clause-others c = rest-union

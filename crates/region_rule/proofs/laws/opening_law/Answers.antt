use Rattle.std.proofs.Common.{arith}
use Rattle.region_rule.proofs.Owners.{opens}
use Rattle.word_map.proofs.Maps.{numbered_at}
use Rattle.region_rule.proofs.laws.opening_law.Goals as goal

pub returns-clause-sound : goal.returns-clause-sound
returns-clause-sound c = opens

pub returns-clause-owns : goal.returns-clause-owns
returns-clause-owns c = λ words k x e. numbered_at words 0 k x k (omega arith) e

use Rattle.std.proofs.Common.{◌++◌}
use Rattle.state_front.specs.Front.{version_bytes}
use Rattle.state_front.proofs.title.read_title.Goals as goal

pub returns-in_default-clause-written : goal.returns-in_default-clause-written
returns-in_default-clause-written c = λ rest e. c.in_default.ensures.written (version_bytes ++ rest) e

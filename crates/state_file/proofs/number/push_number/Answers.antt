use Rattle.state_file.specs.Number.{number_bytes}
use Rattle.state_file.proofs.number.push_number.Goals as goal

pub returns : goal.returns
unfolding number_bytes
returns c = c.push_sevens.ensures

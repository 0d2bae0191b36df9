use Rattle.dsa_area.proofs.Lives.{live_is_taken}
use Rattle.dsa_area.proofs.laws.live_objects_are_taken.Goals as goal

pub returns : goal.returns
returns c = live_is_taken

use Rattle.std.proofs.Common.{refl}
use Rattle.c_queue.proofs.end.End.leave.Goals as goal

pub returns-in-Sends : goal.returns-in-Sends
returns-in-Sends c = rw c.in-Sends.is (c.leave.new.self, refl, c.leave.ensures)

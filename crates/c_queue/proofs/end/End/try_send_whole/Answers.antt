use Rattle.std.proofs.Common.{refl}
use Rattle.c_queue.proofs.end.End.try_send_whole.Goals as goal

pub returns-in-Sends : goal.returns-in-Sends
returns-in-Sends c = rw c.in-Sends.is (c.try_send_whole.new.self, refl, c.try_send_whole.ensures)

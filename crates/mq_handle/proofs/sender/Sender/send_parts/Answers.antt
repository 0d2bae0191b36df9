use Rattle.mq_handle.specs.Parts.{joined}
use Rattle.mq_handle.proofs.SendTries.{stays_on}
use Rattle.mq_handle.proofs.sender.Sender.send_parts.Goals as goal

pub returns-in-Sent-clause-stays : goal.returns-in-Sent-clause-stays
returns-in-Sent-clause-stays g c = stays_on c.args.self.now.end c.loop.self.end c.send_parts_once.new.self.end (joined c.args.parts.now) c.loop.invariant.on c.send_parts_once.ensures.stays

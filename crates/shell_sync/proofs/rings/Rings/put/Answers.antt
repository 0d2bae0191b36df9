use Rattle.std.proofs.Common.{Some, refl}
use Rattle.shell_memory.proofs.Named.{puts_key}
use Rattle.shell_sync.proofs.rings.Rings.put.Goals as goal

pub returns-in-Ok : goal.returns-in-Ok
returns-in-Ok c = puts_key c.args.key.items c.args.key c.args.self.now.named c.insert.new.self (Some c.args.queue) refl c.in-Ok.ensures.updates

use Rattle.std.proofs.Common.{Some, refl}
use Rattle.shell_memory.proofs.Named.{puts_key}
use Rattle.shell_memory.proofs.chunks.Chunks.put.Goals as goal

pub returns-in-Ok-clause-puts : goal.returns-in-Ok-clause-puts
returns-in-Ok-clause-puts c = puts_key c.args.key.items c.args.key c.args.self.now.named c.insert.new.self (Some c.args.chunk) refl c.in-Ok.ensures.updates

use Rattle.shell_memory.proofs.Named.{taken-key, taken-none, taken-rest, taken-value}
use Rattle.shell_memory.proofs.chunks.Chunks.take.Goals as goal

pub returns-clause-none : goal.returns-clause-none
returns-clause-none c = taken-none c.remove_entry.result c.args.name.now c.args.self.now.named c.remove_entry.new.self c.remove_entry.ensures.value c.remove_entry.ensures.unchanged

pub returns-clause-key : goal.returns-clause-key
returns-clause-key c = taken-key c.remove_entry.result c.args.name.now c.remove_entry.ensures.same_key

pub returns-clause-chunk : goal.returns-clause-chunk
returns-clause-chunk c = taken-value c.remove_entry.result c.args.name.now c.args.self.now.named c.remove_entry.ensures.value

pub returns-clause-rest : goal.returns-clause-rest
returns-clause-rest c = taken-rest c.remove_entry.result c.args.name.now c.args.self.now.named c.remove_entry.new.self c.remove_entry.ensures.updates

use Rattle.std.proofs.Common.{All}
use Rattle.result_text.specs.Printable.{IsSmallSlot}
use Rattle.line_runs.proofs.Entries.{HaveMore}
use Rattle.line_runs.proofs.run.Run.of_groups.Given as goal

-- the bytes have an entry for each group so far
abbrev pub invariant-loop-group : goal.invariant-loop-group
invariant-loop-group l = record { small : All IsSmallSlot l.state.slots; have : HaveMore l.bound l.groups l.refs l.group-index l.bytes.items l.ends.items }

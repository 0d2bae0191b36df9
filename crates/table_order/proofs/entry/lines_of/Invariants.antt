use Rattle.std.proofs.Common.{◌≡◌, map, take}
use Rattle.table_order.specs.Entries.{line_at}
use Rattle.table_order.proofs.entry.lines_of.Given as goal

abbrev pub invariant-loop-entry : goal.invariant-loop-entry
invariant-loop-entry l = map (λ line. line.now) l.ordered.items ≡ map (line_at (map (λ line. line.now) l.lines)) (take l.entry-index l.entries)

use Rattle.std.proofs.Common.{◌≡◌, map, take}
use Rattle.std.specs.List.{concat}
use Rattle.line_runs.specs.Entries.{Entry}
use Rattle.line_runs.specs.Order.{entry_at}
use Rattle.line_runs.proofs.texts.text_of.Given as goal

abbrev pub invariant-loop-line : goal.invariant-loop-line
invariant-loop-line l = l.text.items ≡ concat (map (λ (e : Entry). e.1) (map (entry_at l.runs) (take l.line-index l.lines)))

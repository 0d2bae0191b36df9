use Rattle.std.proofs.Common.{◌≡◌, ◌≤◌, ◌-◌, ◌++◌, [], List, drop, get_or, length, map, take}
use Rattle.line_runs.specs.Entries.{Entry}
use Rattle.line_runs.specs.Order.{entry_at}
use Rattle.line_runs.proofs.texts.add_lines.Given as goal

-- the lines so far are a stretch from the first place on
abbrev pub invariant-loop-at : goal.invariant-loop-at
invariant-loop-at l = record {
  up : l.from ≤ l.at;
  lines : (runs : List (List Entry)) → l.to ≤ length (get_or runs l.run []) → map (entry_at runs) l.lines.items ≡ map (entry_at runs) l.fn.lines.items ++ take (l.at - l.from) (drop l.from (get_or runs l.run []));
}

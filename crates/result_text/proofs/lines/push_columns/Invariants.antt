use Rattle.std.proofs.Common.{◌≡◌, ◌++◌, ◌-◌, map}
use Rattle.std.specs.List.{concat}
use Rattle.result_text.specs.KeyColumns.{columns_in}
use Rattle.result_text.specs.Lines.{followed}
use Rattle.result_text.proofs.lines.push_columns.Given as goal

-- what the text has, and then the columns that are left
abbrev pub invariant-loop-at : goal.invariant-loop-at
invariant-loop-at l = l.text.items ++ concat (map followed (columns_in (l.columns - l._at) l.rest)) ≡ l.fn.text.items ++ concat (map followed (columns_in l.columns l.key))

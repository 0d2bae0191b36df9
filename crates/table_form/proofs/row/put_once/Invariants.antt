use Rattle.std.proofs.Common.{◌≡◌, ◌++◌, drop, false}
use Rattle.table_form.specs.Reading.{once}
use Rattle.table_form.proofs.row.put_once.Given as goal

-- what was put, and what will be of the bytes that are left
abbrev pub invariant-loop-byte : goal.invariant-loop-byte
invariant-loop-byte l = l.buffer.items ++ once l.after_quote (drop l.byte-index l.inner) ≡ once false l.inner

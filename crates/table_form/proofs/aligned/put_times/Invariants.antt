use Rattle.std.proofs.Common.{◌≡◌, ◌++◌, replicate}
use Rattle.table_form.proofs.aligned.put_times.Given as goal

-- the bytes so far
abbrev pub invariant-loop-at : goal.invariant-loop-at
invariant-loop-at l = l.out.items ≡ l.fn.out.items ++ replicate l._at l.byte

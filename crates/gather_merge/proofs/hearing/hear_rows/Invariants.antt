use Rattle.std.proofs.Common.{◌≡◌, ◌++◌}
use Rattle.parallel_ctx.specs.Tokens.{SameQueues}
use Rattle.gather_merge.specs.Hearing.{IsOpen, rows_given}
use Rattle.gather_merge.proofs.hearing.hear_rows.Given as goal

-- the rows so far
abbrev pub invariant-loop : goal.invariant-loop
invariant-loop g l = record {
  can_next : (goal.iterator-loop g).can_next l.iterator';
  finite : (goal.iterator-loop g).is_finite l.iterator';
  same : SameQueues l.initial.queue l.queue;
  open_is : IsOpen l.r l.queue;
  rows : l.list.items ≡ l.initial.list.items ++ rows_given l.queue;
}

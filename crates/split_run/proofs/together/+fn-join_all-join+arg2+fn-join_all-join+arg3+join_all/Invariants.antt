use Rattle.std.proofs.Common.{◌+◌}
use Rattle.split_run.proofs.together.+fn-join_all-join+arg2+fn-join_all-join+arg3+join_all.Given as goal

abbrev pub decreases-join+arg2 : goal.decreases-join+arg2
decreases-join+arg2 g l = (l.front.len + l.front.len) + 1

abbrev pub decreases-join+arg3 : goal.decreases-join+arg3
decreases-join+arg3 g l = (l.back.len + l.back.len) + 1

abbrev pub decreases-join_all : goal.decreases-join_all
decreases-join_all g l = l.front.len + l.front.len

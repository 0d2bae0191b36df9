use Rattle.state_save.proofs.Pushed.{IsPutTo}
use Rattle.state_save.proofs.saving.push_each.Given as goal

abbrev pub invariant-loop-group : goal.invariant-loop-group
invariant-loop-group l = IsPutTo l.shape l.groups l.refs l.group-index l.fn.writer l.fn.out.items l.writer l.out.items

use Rattle.std.proofs.Common.{◌≡◌, All, take}
use Rattle.result_text.specs.KeyColumns.{lengths_in}
use Rattle.result_text.proofs.order.are_alike.Given as goal

abbrev pub invariant-loop-group : goal.invariant-loop-group
invariant-loop-group l = All (λ group. lengths_in l.columns group.key.now ≡ lengths_in l.columns l.first) (take l.group-index l.refs)

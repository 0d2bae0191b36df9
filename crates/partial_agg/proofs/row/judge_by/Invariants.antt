use Rattle.std.proofs.Common.{◌≡◌, None, not, take}
use Rattle.std.specs.List.{position_from}
use Rattle.par_model.specs.Keep.{keeps}
use Rattle.partial_agg.proofs.row.judge_by.Given as goal

-- the filters so far keep the row
abbrev pub invariant-loop-i : goal.invariant-loop-i
invariant-loop-i g l = position_from (λ filter. not (keeps filter (g.F.RowFields.fields l.row))) 0 (take l.i l.plan.filters) ≡ None

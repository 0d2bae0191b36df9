use Rattle.std.proofs.Common.{◌≡◌, drop}
use Rattle.std.specs.List.{position_from}
use Rattle.par_model.specs.Refuse.{is_unreadable}
use Rattle.slow_model.proofs.slow.first_unreadable.Given as goal

-- the search is still to go on from here
abbrev pub invariant-items : goal.invariant-items
invariant-items l = position_from (is_unreadable l.row) 0 l.plan.items ≡ position_from (is_unreadable l.row) l.at (drop l.at l.plan.items)

use Rattle.std.proofs.Common.{◌≡◌, drop, not}
use Rattle.std.specs.List.{position_from}
use Rattle.par_model.specs.Keep.{deciding, keeps}
use Rattle.slow_model.proofs.slow.deciding.Given as goal

-- the search is still to go on from here
abbrev pub invariant-filters : goal.invariant-filters
invariant-filters l = deciding l.plan l.row ≡ position_from (λ filter. not (keeps filter l.row)) l.at (drop l.at l.plan.filters)

use Rattle.std.proofs.Common.{◌≡◌, take, true}
use Rattle.std.specs.List.{list_all}
use Rattle.good_rows.specs.Good.{is_good}
use Rattle.good_rows.proofs.rating.count_all.Given as goal

-- no row so far is refused
abbrev pub invariant-rows : goal.invariant-rows
invariant-rows l = list_all (is_good l.plan l.width) (take l.row l.store) ≡ true

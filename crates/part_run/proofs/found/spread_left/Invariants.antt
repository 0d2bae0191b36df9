use Rattle.std.proofs.Common.{◌≡◌, ◌≤◌, All, drop, length, take}
use Rattle.partial_agg.specs.Rows.{IsAccepted}
use Rattle.part_run.specs.Carrying.{spread}
use Rattle.part_run.proofs.found.spread_left.Given as goal

-- the lists have the rows so far, none of these is refused, and the others are left
abbrev pub invariant-rows : goal.invariant-rows
invariant-rows l = record {
  within : l.count ≤ length l.fn.rows.left;
  left : l.rows.left ≡ drop l.count l.fn.rows.left;
  lists : l.lists ≡ spread l.plan l.fn.lists (take l.count l.fn.rows.left);
  accepted : All (IsAccepted l.plan l.width) (take l.count l.fn.rows.left);
}

abbrev pub decreases-rows : goal.decreases-rows
decreases-rows l = length l.rows.left

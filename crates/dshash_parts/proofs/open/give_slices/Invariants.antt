use Rattle.std.proofs.Common.{◌≡◌, length}
use Rattle.dsa_area.specs.declared.area.AreaPass.{AreaPass}
use Rattle.dsa_area.specs.Shown as area
use Rattle.dshash_parts.specs.Opening.{AreSlices, GaveSlices}
use Rattle.dshash_parts.proofs.open.give_slices.Given as goal

abbrev pub invariant-loop-slice : goal.invariant-loop-slice
invariant-loop-slice g l = record {
  own : area.Belongs l.area l.apass;
  caller : area.number_of l.apass ≡ area.number_of l.fn.apass;
  slices : AreSlices l.r l.slices.items;
  gave : (q : AreaPass) → GaveSlices l.area l.apass q (length l.slices.items) → GaveSlices l.area l.fn.apass q (length l.fn.slices.items);
  done : length l.slices.items ≡ 0 → GaveSlices l.area l.fn.apass l.apass (length l.fn.slices.items);
}

abbrev pub decreases-loop-slice : goal.decreases-loop-slice
decreases-loop-slice g l = goal.left-loop-slice g l

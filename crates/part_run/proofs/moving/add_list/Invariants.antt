use Rattle.std.proofs.Common.{◌≡◌, length, take}
use Rattle.gather_law.specs.KeyParts.{groups_in, with_listed}
use Rattle.row_lists.specs.Parts.{part_of}
use Rattle.part_run.proofs.moving.add_list.Given as goal

-- the groups of the part so far were added
abbrev pub invariant-loop-at : goal.invariant-loop-at
invariant-loop-at l = record {
  added : l.so_far ≡ with_listed l.initial.so_far (groups_in part_of l.part (take l.at l.groups));
  eight : length l.state.slots ≡ 8;
}

use Rattle.std.proofs.Common.{◌≡◌, arith, subst}
use Rattle.gather_law.specs.KeyParts.{groups_in, with_listed}
use Rattle.row_lists.specs.Parts.{part_of}
use Rattle.part_run.specs.declared.moving.LentParts.{LentParts}
use Rattle.part_run.proofs.Lending.{list_next}
use Rattle.part_run.proofs.moving.part_map.Goals as goal

pub loop-list-preserved : goal.loop-list-preserved
loop-list-preserved c =
    list_next c.args.part c.args.lists.now c.loop-list.list-index c.list-item.result c.loop-list.so_far c.add_list.new.so_far (omega (arith, c.loop-list-test.true)) c.loop-list.invariant
    (subst (λ (l : LentParts). c.add_list.new.so_far ≡ with_listed c.loop-list.so_far (groups_in part_of c.args.part l.groups)) c.list-item.is c.in_ok-add_list.ensures)

use Rattle.gather_merge.proofs.Taking.{TakenFirst}
use Rattle.gather_merge.proofs.drawing.take_block.Given as goal

abbrev pub invariant-loop-at : goal.invariant-loop-at
invariant-loop-at l = TakenFirst l.plan l.rows l.block l.at l.initial.list.items l.list.items

use Rattle.std.proofs.Common.{ap, subst, List}
use mathlib.Core.List.{IsPrefix}
use Rattle.placed_queue.specs.declared.item.Item.{Item}
use Rattle.placed_queue.specs.Sides.{Side}
use Rattle.placed_queue.proofs.Fronts.{prefix_trans}
use Rattle.placed_queue.proofs.sender.Sender.meet.Goals as goal

pub returns-clause-grows : goal.returns-clause-grows
returns-clause-grows c =
    subst (λ (k : List Item). IsPrefix k c.observe-self-inside.new.seen.log) (ap (λ (s : Side). s.history) c.self.view_is) (prefix_trans _ _ _ c.learn.ensures.2 c.observe-self-inside.ensures.seen.1)

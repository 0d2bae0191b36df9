use Rattle.std.proofs.Common.{◌++◌, ◌∷◌, ◌∙◌, [], List, ap, replicate}
use Rattle.row_lists.specs.Carried.{Carried}
use Rattle.part_run.specs.Carrying.{no_rows}
use Rattle.part_run.proofs.Held.{one_more_empty}
use Rattle.part_run.proofs.parts.empty_lists.Goals as goal

pub loop-at-preserved : goal.loop-at-preserved
loop-at-preserved c =
    c.in_ok-push.ensures.items ∙ ap (λ (ls : List (List (List Carried))). ls ++ c.in_ok-new.field-0 ∷ []) c.loop-at.invariant
    ∙ ap (λ (l : List (List Carried)). replicate c.loop-at._at no_rows ++ l ∷ []) c.in_ok-new.ensures ∙ one_more_empty c.loop-at._at

use Rattle.std.proofs.Common.{◌++◌, ◌∷◌, ◌∙◌, [], List, ap, replicate}
use Rattle.std.specs.FinMap as map
use Rattle.partial_agg.specs.Groups.{GroupsByKey}
use Rattle.split_run.proofs.Joining.{replicate_more}
use Rattle.split_run.proofs.pieces.begin.Goals as goal

pub loop-at-preserved : goal.loop-at-preserved
loop-at-preserved c =
    c.in_ok-push.ensures.items ∙ ap (λ (l : List GroupsByKey). l ++ c.new.result ∷ []) c.loop-at.invariant
    ∙ ap (λ (m : GroupsByKey). replicate c.loop-at._at map.empty ++ m ∷ []) c.new.ensures.empty ∙ replicate_more c.loop-at._at map.empty

use Rattle.std.proofs.Common.{◌++◌, List, ap, ◌∙◌}
use Rattle.join_kinds.specs.Kinds.{left_outer_join_of}
use Rattle.join_kinds.specs.Outer.{lone_rows}
use Rattle.join_kinds.specs.declared.outer.JoinedRow.{JoinedRow}
use Rattle.join_kinds.proofs.Tables.{lone_are}
use Rattle.join_kinds.proofs.outer.full_join.Goals as goal

pub returns : goal.returns
returns c = λ left right lc rc e n m.
    c.in_ok-add_lone.ensures ∙ ap (λ (l : List JoinedRow). l ++ lone_rows c.args.pairs.now c.args.right_rows) (c.in_ok-joined.ensures left right lc rc e n)
    ∙ ap (λ (l : List JoinedRow). left_outer_join_of left right lc rc ++ l) (lone_are left right lc rc c.args.pairs.now c.args.right_rows e m)

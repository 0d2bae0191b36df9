use Rattle.std.proofs.Common.{◌++◌, List, ap, map, ◌∙◌}
use Rattle.join_pairs.specs.Join.{pairs_of}
use Rattle.join_kinds.specs.Outer.{lone_rows}
use Rattle.join_kinds.specs.declared.outer.JoinedRow.{JoinedRow}
use Rattle.join_kinds.specs.declared.outer.JoinedRow.TheVariants.{Both}
use Rattle.join_kinds.proofs.Tables.{lone_are}
use Rattle.join_kinds.proofs.outer.right_outer_join.Goals as goal

pub returns : goal.returns
returns c = λ left right lc rc e n.
    c.in_ok-add_lone.ensures ∙ ap (λ (l : List JoinedRow). l ++ lone_rows c.args.pairs.now c.args.rows) (c.in_ok-joined.ensures ∙ ap (map Both) e)
    ∙ ap (λ (l : List JoinedRow). map Both (pairs_of left right lc rc) ++ l) (lone_are left right lc rc c.args.pairs.now c.args.rows e n)

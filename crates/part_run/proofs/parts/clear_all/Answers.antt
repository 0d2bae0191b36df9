use Rattle.std.proofs.Common.{◌≤◌, ◌++◌, ◌∙◌, List, ap, append-nil, arith, length, map, set}
use Rattle.std.proofs.lemmas.List.{drop_all, take_all}
use Rattle.std.proofs.lemmas.List.Edits.{map_over_more}
use Rattle.row_lists.specs.Carried.{Carried}
use Rattle.part_run.proofs.Held.{all_emptied, emptied}
use Rattle.part_run.proofs.parts.clear_all.Goals as goal

pub loop-one-preserved : goal.loop-one-preserved
loop-one-preserved c =
    let i = c.loop-one.one-index in
    ap (λ (l : List (List Carried)). set c.loop-one.lists i l) c.clear.ensures
    ∙ map_over_more emptied c.args.lists.now c.loop-one.lists i c.one-item.result (omega (arith, c.loop-one-test.true)) c.loop-one.invariant c.one-item.is

pub returns : goal.returns
returns c =
    let i = c.loop-one.one-index in
    let olds = c.args.lists.now in
    let all : length olds ≤ i = omega (arith, c.loop-one-test.false) in
    c.loop-one.invariant ∙ (λ j. map emptied (take_all i olds all j) ++ drop_all i olds all j) ∙ append-nil (map emptied olds) ∙ all_emptied olds

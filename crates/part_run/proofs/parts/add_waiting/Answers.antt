use Rattle.std.proofs.Common.{◌≤◌, ◌∙◌, ap, arith, length}
use Rattle.std.proofs.lemmas.List.{take_all}
use Rattle.part_run.specs.Carrying.{waiting_for, with_carried}
use Rattle.part_run.proofs.Held.{waiting_next}
use Rattle.part_run.proofs.parts.add_waiting.Goals as goal

pub loop-of_one-preserved : goal.loop-of_one-preserved
loop-of_one-preserved c =
    waiting_next c.args.part c.loop-of_one.of_one-index c.args.lists.now c.of_one-item.result c.list.result.now c.args.map.now.groups c.loop-of_one.map.groups c.add_list.new.groups
    (omega (arith, c.loop-of_one-test.true)) c.of_one-item.is c.list.ensures c.loop-of_one.invariant c.in-Ok.ensures

pub returns-in-Err : goal.returns-in-Err
returns-in-Err c = record { added = λ none. absurd (cc none) }

pub returns : goal.returns
returns c =
    let all : length c.args.lists.now ≤ c.loop-of_one.of_one-index = omega (arith, c.loop-of_one-test.false) in
    record { added = λ none. c.loop-of_one.invariant ∙ ap (λ ls. with_carried c.args.map.now.groups (waiting_for c.args.part ls)) (take_all c.loop-of_one.of_one-index c.args.lists.now all) }

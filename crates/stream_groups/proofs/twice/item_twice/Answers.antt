use Rattle.std.proofs.Common.{◌≡◌, List, None, Option, Some, map, subst, sym}
use Rattle.par_model.specs.declared.plan.Item.{Item}
use Rattle.stream_groups.specs.Twice.{first_some, item_same}
use Rattle.stream_groups.specs.declared.twice.Twice.{Twice}
use Rattle.stream_groups.proofs.Doubles.{first_all, first_here, first_next, first_nothing}
use Rattle.stream_groups.proofs.twice.item_twice.Goals as goal

pub loop-at-init : goal.loop-at-init
loop-at-init c = first_nothing

pub returns-in-Some-clause-is : goal.returns-in-Some-clause-is
returns-in-Some-clause-is c =
    let header = c.args.header.now in
    let items = c.items-items.result.now in
    let f : Item → Option Twice = λ item. item_same header item in
    let found : first_some (map f items) ≡ Some c.in-Some.twice = first_here f items c.loop-at.at _ c.in-Some.twice c.loop-at-test.true c.loop-at.invariant (sym c.in-Some.ensures.is) in
    sym (subst (λ (l : List Item). first_some (map f l) ≡ Some c.in-Some.twice) c.items-items.ensures.items found)

pub loop-at-preserved : goal.loop-at-preserved
loop-at-preserved c =
    let header = c.args.header.now in
    let items = c.items-items.result.now in
    let f : Item → Option Twice = λ item. item_same header item in
    first_next f items c.loop-at.at _ c.loop-at-test.true c.loop-at.invariant (sym c.in-None.ensures.is)

pub returns-clause-is : goal.returns-clause-is
returns-clause-is c =
    let header = c.args.header.now in
    let items = c.items-items.result.now in
    let f : Item → Option Twice = λ item. item_same header item in
    let none : first_some (map f items) ≡ None = first_all f items c.loop-at.at c.loop-at-test.false c.loop-at.invariant in
    sym (subst (λ (l : List Item). first_some (map f l) ≡ None) c.items-items.ensures.items none)

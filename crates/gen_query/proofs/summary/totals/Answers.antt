use Rattle.std.proofs.Common.{◌∙◌, ◌+◌, ◌+ℤ◌, arith, get_or, refl, sym}
use Rattle.std.proofs.lemmas.Int.{ints}
use Rattle.par_model.specs.Aggregate.{no_values}
use Rattle.gen_query.proofs.Steps.{adds_one, fitting}
use Rattle.gen_query.proofs.summary.totals.Goals as goal

pub overflow_add-rows : goal.overflow_add-rows
overflow_add-rows c =
    let one = adds_one c.args.groups.now c.groups.at c.state-state.result c.requires.small c.state-state.ensures in
    omega (arith, one.few, c.groups.invariant.few, c.groups-test.true, c.len-at-end.ensures, c.requires.few)

pub overflow_add-sum : goal.overflow_add-sum
overflow_add-sum c =
    let one = adds_one c.args.groups.now c.groups.at c.state-state.result c.requires.small c.state-state.ensures in
    let inv = c.groups.invariant in
    (fitting c.groups.sum-bits c.groups.at _ _ refl (omega (arith, c.groups-test.true, c.len-at-end.ensures, c.requires.few)) inv.low inv.high one.low one.high).fits

pub groups-preserved : goal.groups-preserved
groups-preserved c =
    let one = adds_one c.args.groups.now c.groups.at c.state-state.result c.requires.small c.state-state.ensures in
    let inv = c.groups.invariant in
    let sum = fitting c.groups.sum-bits c.groups.at _ (get_or c.state-state.result.slots 1 no_values).sum refl (omega (arith, c.groups-test.true, c.len-at-end.ensures, c.requires.few)) inv.low inv.high one.low one.high in
    record {
      rows = (λ i. inv.rows i + c.state-state.result.rows) ∙ sym one.rows;
      sums = sum.is ∙ (λ i. inv.sums i +ℤ (get_or c.state-state.result.slots 1 no_values).sum) ∙ sym one.sums;
      few = omega (arith, inv.few, one.few);
      low = omega (arith, ints, sum.is, inv.low, one.low);
      high = omega (arith, ints, sum.is, inv.high, one.high);
    }

pub returns-clause-low : goal.returns-clause-low
returns-clause-low c = omega (arith, ints, c.groups.invariant.low, c.groups.auto.at-end, c.len-at-end.ensures, c.requires.few)

pub returns-clause-high : goal.returns-clause-high
returns-clause-high c = omega (arith, ints, c.groups.invariant.high, c.groups.auto.at-end, c.len-at-end.ensures, c.requires.few)

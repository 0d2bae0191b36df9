use Rattle.std.proofs.Common.{◌∙◌, ◌+ℤ◌, append-nil, ap, arith, sym, take, to_z}
use Rattle.std.proofs.lemmas.Int.{ints}
use Rattle.std.specs.Int.{w128}
use Rattle.par_model.proofs.Folds.{chosen_is, sum_with, total-push}
use Rattle.slow_model.proofs.GroupRows.{in_group, numbers, numbers_next}
use Rattle.par_model.specs.Aggregate.{total}
use Rattle.par_model.specs.Record.{field_of}
use Rattle.slow_model.proofs.slow_group.sum.Goals.{in-Some, in_default}
use Rattle.slow_model.proofs.slow_group.sum.Goals as goal

pub number_of-requires-clause-plan : goal.number_of-requires-clause-plan
number_of-requires-clause-plan c = rw c.row-item.is (c.requires.plan c.rows.row-index c.row-item.result c.rows-test.true)

pub rows-preserved : goal.rows-preserved
rows-preserved c =
    let p = in_group c.args.plan.now c.args.key.now in
    let next = numbers_next p c.args.item.column c.args.item.places c.args.rows.now c.rows.row-index c.row-item.result c.number_of.result c.rows-test.true c.row-item.is c.number_of.ensures in
    let inv = c.rows.invariant in
    elim c.match-number_of.branch [
      | in-Some w ↦
          let more = rw w.in-Some.is at next in
          let sum = ap total more ∙ total-push (numbers p c.args.item.column c.args.item.places (take c.rows.row-index c.args.rows.now)) w.in-Some.number in
          let is = chosen_is (p c.row-item.result) c.args.item.places (field_of c.row-item.result c.args.item.column) w.in-Some.number (sym w.in-Some.is ∙ c.number_of.ensures) in
          let before = to_z w128 c.rows.sum-bits in
          let after = to_z w128 c.match-number_of.sum-bits in
          let now = sum_with c.rows.row-index before w.in-Some.number w.from-sum.result after (omega arith) is inv.low inv.high w.from-sum.ensures w.sum-is in
          record { is = now.0 ∙ ap (λ z. z +ℤ w.in-Some.number) inv.is ∙ sym sum; low = now.1; high = now.2 }
      | in_default w ↦
          let same = rw (w.in_default.is, append-nil) at next in
          record { is = w.sum-is ∙ inv.is ∙ sym (ap total same); low = omega (arith, ints); high = omega (arith, ints) }
    ]

use Rattle.std.proofs.Common.{◌∙◌, FitsSigned, append-nil, ap, sym, take, w64}
use Rattle.std.specs.Int.{int_max}
use Rattle.par_model.proofs.Folds.{chosen_is, extreme_next, greatest_so_far}
use Rattle.slow_model.proofs.GroupRows.{in_group, numbers, numbers_next}
use Rattle.par_model.specs.Record.{field_of}
use Rattle.slow_model.proofs.slow_group.greatest.Goals.{in-Some, in_default}
use Rattle.slow_model.proofs.slow_group.greatest.Goals as goal

pub number_of-requires-clause-plan : goal.number_of-requires-clause-plan
number_of-requires-clause-plan c = rw c.row-item.is (c.requires.plan c.rows.row-index c.row-item.result c.rows-test.true)

pub rows-preserved : goal.rows-preserved
rows-preserved c =
    let p = in_group c.args.plan.now c.args.key.now in
    let next = numbers_next p c.args.item.column c.args.item.places c.args.rows.now c.rows.row-index c.row-item.result c.number_of.result c.rows-test.true c.row-item.is c.number_of.ensures in
    elim c.match-number_of.branch [
      | in-Some w ↦
          let more = rw w.in-Some.is at next in
          let is = chosen_is (p c.row-item.result) c.args.item.places (field_of c.row-item.result c.args.item.column) w.in-Some.number (sym w.in-Some.is ∙ c.number_of.ensures) in
          let fits : FitsSigned w64 w.greater.result = record { sfits = w.greater.type_inv } in
          extreme_next int_max (numbers p c.args.item.column c.args.item.places (take c.rows.row-index c.args.rows.now)) w.in-Some.number w.greater.result c.rows.greatest c.match-number_of.greatest is fits c.rows.invariant w.greater.ensures w.greatest-is
          ∙ ap greatest_so_far (sym more)
      | in_default w ↦
          let same = rw (w.in_default.is, append-nil) at next in
          w.greatest-is ∙ c.rows.invariant ∙ ap greatest_so_far (sym same)
    ]

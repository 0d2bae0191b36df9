use Rattle.std.proofs.Common.{refl}
use Rattle.partial_agg.specs.Reading.{key_in, values_in}
use Rattle.part_run.proofs.Rows.{kept_row, left_row}
use Rattle.part_run.proofs.piece.spread_row.Goals as goal

pub returns-in-Refused-clause-stopped : goal.returns-in-Refused-clause-stopped
returns-in-Refused-clause-stopped g c = (refl, c.in-Refused.ensures)

pub returns-in-LeftOut-clause-spread : goal.returns-in-LeftOut-clause-spread
returns-in-LeftOut-clause-spread g c = left_row c.args.plan.now (g.F.RowFields.fields c.args.row.now) c.args.lists.now c.in-LeftOut.ensures.1

pub returns-in-LeftOut-clause-accepted : goal.returns-in-LeftOut-clause-accepted
returns-in-LeftOut-clause-accepted g c = c.in-LeftOut.ensures.0

pub returns-in-Ok-clause-spread : goal.returns-in-Ok-clause-spread
returns-in-Ok-clause-spread g c =
    let buffer = c.read.new.self in
    kept_row c.args.plan.now c.args.width (g.F.RowFields.fields c.args.row.now) (key_in buffer) (values_in buffer) c.args.lists.now c.push_read.new.lists c.in-Kept.ensures c.in-Ok.ensures

pub returns-in-Ok-clause-accepted : goal.returns-in-Ok-clause-accepted
returns-in-Ok-clause-accepted g c = c.in-Kept.ensures.counted.0

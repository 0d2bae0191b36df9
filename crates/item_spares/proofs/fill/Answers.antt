use Rattle.item_spares.proofs.Filling.{came, held, lacked}
use Rattle.item_spares.proofs.fill.Goals as goal

pub returns-then-is_some-clause-filled : goal.returns-then-is_some-clause-filled
returns-then-is_some-clause-filled g c = held c.args.area.now c.args.apass.now c.args.spares.now c.args.spare.now c.is_some.result c.is_some.ensures c.if-is_some.true

pub returns-in-Ok-clause-filled : goal.returns-in-Ok-clause-filled
returns-in-Ok-clause-filled g c = came c.args.area.now c.args.apass.now c.alloc.new.pass c.args.spares.now c.alloc.new.self c.args.spare.now c.is_some.result c.is_some.ensures c.if-is_some.false c.in-Ok.item c.in-Ok.ensures.given

pub returns-in-Err-clause-filled : goal.returns-in-Err-clause-filled
returns-in-Err-clause-filled g c = lacked c.args.area.now c.args.apass.now c.alloc.new.pass c.args.spares.now c.alloc.new.self c.args.spare.now c.is_some.result c.is_some.ensures c.if-is_some.false c.in-Err._lack.pages c.in-Err._lack.largest c.in-Err.ensures.refused

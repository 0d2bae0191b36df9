use Rattle.c_records.proofs.Shares.{cut_item}
use Rattle.c_records.proofs.caller.take_item.Goals as goal

pub returns-in-None-clause-item : goal.returns-in-None-clause-item
returns-in-None-clause-item c = cut_item c.args.r.now c.cut.result c.cut.ensures.chunk

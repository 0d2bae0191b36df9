use Rattle.dshash_numbers.proofs.Tables.{delete_granted}
use Rattle.dshash_numbers.proofs.table.NumberTable.take.Goals as goal

pub unreachable-requires : goal.unreachable-requires
unreachable-requires g c = delete_granted c.args.area.now c.args.self.now c.call.new.self c.args.apass.now c.call.new.apass _ _ _ c.in-Err.ensures.refused

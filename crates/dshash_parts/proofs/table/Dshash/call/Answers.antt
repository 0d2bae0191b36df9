use Rattle.std.proofs.Common.{is_some}
use Rattle.lock_book.specs.Shown.{number_of, seen_of, mine_of}
use Rattle.dshash_core.specs.Key.{hash_of}
use Rattle.dshash_core.specs.Cells.{partition_of}
use Rattle.dshash_parts.specs.Tables.{item_of}
use Rattle.dshash_parts.specs.Traces.{sight_of}
use Rattle.dshash_parts.proofs.Ends.{gave_spare}
use Rattle.dshash_parts.proofs.table.Dshash.call.Goals as goal

pub returns-in-Ok-clause-made : goal.returns-in-Ok-clause-made
returns-in-Ok-clause-made g c =
    gave_spare (partition_of (hash_of c.args.key.now)) (item_of c.args.self.now) c.args.key.now c.args.call.now g.O.CellObject.stepped c.args.area.now (number_of c.args.pass.now) (sight_of c.args.pass.now c.args.apass.now)
    (seen_of c.call_with_spare.new.pass) (mine_of c.call_with_spare.new.pass) c.call_with_spare.new.apass c.give_spare.new.apass (is_some c.call_with_spare.new.spare) c.in-Ok.reply c.in-Ok.ensures.made c.give_spare.ensures.gave c.give_spare.ensures.area_caller

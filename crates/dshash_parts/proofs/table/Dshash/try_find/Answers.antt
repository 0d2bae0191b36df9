use Rattle.std.proofs.Common.{is_some}
use Rattle.dshash_core.specs.Key.{hash_of}
use Rattle.dshash_core.specs.Cells.{partition_of}
use Rattle.dshash_core.specs.declared.outcome.CoreOut.TheVariants.{Done}
use Rattle.dshash_parts.proofs.Lookups.{hands_nothing}
use Rattle.dshash_parts.proofs.Tries.{came}
use Rattle.dshash_parts.proofs.table.Dshash.try_find.Goals as goal

pub returns-in-Ok-Done-clause-event : goal.returns-in-Ok-Done-clause-event
returns-in-Ok-Done-clause-event g c =
    hands_nothing g.O.CellObject.stepped c.args.call.now c.requires.keeps _ _ _ _ _ (partition_of (hash_of c.args.key.now)) c.args.key.now c.in-Ok-Done.reply (is_some c.in-Ok-Done.field-0-1) (is_some c.in-Ok-Done.field-0-2)
    (came g.O.CellObject.stepped _ _ _ _ _ (partition_of (hash_of c.args.key.now)) _ _ (Done c.in-Ok-Done.reply c.in-Ok-Done.field-0-1 c.in-Ok-Done.field-0-2) c.in-Ok-Done.field-0-is c.in-Ok-Done.ensures.event)

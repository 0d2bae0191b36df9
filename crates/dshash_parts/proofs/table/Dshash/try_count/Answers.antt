use Rattle.std.proofs.Common.{refl}
use Rattle.lock_book.specs.Shown.{opens_of}
use Rattle.dshash_parts.specs.Tables.{name_in}
use Rattle.dshash_parts.proofs.Sizes.{look_counts}
use Rattle.dshash_parts.specs.declared.asks.TableAnswer.TheVariants.{Size}
use Rattle.dshash_parts.proofs.Events.{turn}
use Rattle.dshash_parts.proofs.Tries.{answered, is_size}
use Rattle.dshash_parts.proofs.table.Dshash.try_count.Goals as goal

pub returns-in-Ok-clause-event : goal.returns-in-Ok-clause-event
returns-in-Ok-clause-event g c = (c.counted.ensures.0, answered g.O.CellObject.stepped _ _ _ _ _ c.args.partition _ _ (Size c.counted.ensures.0 c.counted.result) c.counted.ensures.1 (turn g.O.CellObject.stepped g.O.CellObject.may (opens_of c.args.self.now.shelf) _ _ _ _ _ c.args.partition _ _ (name_in c.args.r.now c.args.self.now c.args.partition) (c.requires.table.parts c.args.partition c.requires.number) refl (c.in-Ok.ensures.own.0.stands.lawful c.args.partition _ (c.requires.table.parts c.args.partition c.requires.number)) c.in-Ok.ensures.called))

pub returns-in-Ok-clause-counted : goal.returns-in-Ok-clause-counted
returns-in-Ok-clause-counted g c = look_counts g.O.CellObject.stepped _ _ _ _ _ c.args.partition _ _ (returns-in-Ok-clause-event g c).1

pub counted-requires : goal.counted-requires
counted-requires g c = is_size (name_in c.args.r.now c.args.self.now c.args.partition) c.in-Ok.answer (c.in-Ok.ensures.output _ (c.requires.table.parts c.args.partition c.requires.number))

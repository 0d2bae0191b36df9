use Rattle.std.proofs.Common.{refl}
use Rattle.lock_book.specs.Shown.{opens_of}
use Rattle.dshash_parts.specs.Tables.{name_in}
use Rattle.dshash_parts.proofs.Sizes.{move_tells}
use Rattle.dshash_parts.specs.declared.asks.TableAnswer.TheVariants.{LeftOver}
use Rattle.dshash_parts.proofs.Events.{turn}
use Rattle.dshash_parts.proofs.Tries.{answered, is_left_over}
use Rattle.dshash_parts.proofs.table.Dshash.try_grow.Goals as goal

pub returns-in-Ok-clause-event : goal.returns-in-Ok-clause-event
returns-in-Ok-clause-event g c = answered g.O.CellObject.stepped _ _ _ _ _ c.args.partition _ _ (LeftOver c.left_over.result) c.left_over.ensures (turn g.O.CellObject.stepped g.O.CellObject.may (opens_of c.args.self.now.shelf) _ _ _ _ _ c.args.partition _ _ (name_in c.args.r.now c.args.self.now c.args.partition) (c.requires.table.parts c.args.partition c.requires.number) refl (c.in-Ok.ensures.own.0.stands.lawful c.args.partition _ (c.requires.table.parts c.args.partition c.requires.number)) c.in-Ok.ensures.called)

pub returns-in-Ok-clause-grown : goal.returns-in-Ok-clause-grown
returns-in-Ok-clause-grown g c = move_tells g.O.CellObject.stepped _ _ _ _ _ c.args.partition _ _ c.requires.size.1 (returns-in-Ok-clause-event g c)

pub left_over-requires : goal.left_over-requires
left_over-requires g c = is_left_over (name_in c.args.r.now c.args.self.now c.args.partition) c.args.size c.args.slice c.in-Ok.answer (c.in-Ok.ensures.output _ (c.requires.table.parts c.args.partition c.requires.number))

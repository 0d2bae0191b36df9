use Rattle.std.proofs.Common.{ℕ, refl, subst}
use Rattle.lock_book.specs.Shown.{opens_of, number_of, seen_of, mine_of}
use Rattle.dshash_parts.specs.Tables.{name_in, AtPartition}
use Rattle.dshash_parts.specs.declared.histories.PartitionCalls.TheVariants.{Looks}
use Rattle.dshash_parts.specs.declared.histories.PartitionReplies.TheVariants.{HasSize}
use Rattle.dshash_parts.proofs.Events.{turn, no_other_take}
use Rattle.dshash_parts.proofs.Sizes.{turn_legal}
use Rattle.dshash_parts.proofs.turns.take_turn.Goals as goal

pub unreachable-requires : goal.unreachable-requires
unreachable-requires g c = no_other_take (name_in c.args.r.now c.args.table.now c.args.number) c.args.call.now c.args.words c.call.result (c.call.ensures.output _ (c.requires.table.parts c.args.number c.requires.number)) c.in_default.not-Took c.in_default.not-Size

pub returns-in-Took-clause-event : goal.returns-in-Took-clause-event
returns-in-Took-clause-event g c = turn g.O.CellObject.stepped g.O.CellObject.may (opens_of c.args.table.now.shelf) _ _ _ _ _ c.args.number _ _ (name_in c.args.r.now c.args.table.now c.args.number) (c.requires.table.parts c.args.number c.requires.number) refl (c.in-Took.ensures.own.0.stands.lawful c.args.number _ (c.requires.table.parts c.args.number c.requires.number)) c.in-Took.ensures.called

pub returns-in-Took-clause-key : goal.returns-in-Took-clause-key
returns-in-Took-clause-key g c = (
  (c.in-Took.ensures.output _ (c.requires.table.parts c.args.number c.requires.number)).0,
  (turn_legal g.O.CellObject.stepped _ _ _ _ _ c.args.number _ _ (returns-in-Took-clause-event g c)).1.ours,
)

pub returns-in-Took-clause-item : goal.returns-in-Took-clause-item
returns-in-Took-clause-item g c = let fits = c.in-Took.ensures.output _ (c.requires.table.parts c.args.number c.requires.number) in (fits.1, fits.2)

pub returns-in-Size-clause-look : goal.returns-in-Size-clause-look
returns-in-Size-clause-look g c = (
  c.in-Size.field-0,
  subst (λ (keys : ℕ). AtPartition g.O.CellObject.stepped (number_of c.args.pass.now) (seen_of c.args.pass.now) (mine_of c.args.pass.now) (seen_of c.call.new.pass) (mine_of c.call.new.pass) c.args.number Looks (HasSize c.in-Size.field-0 keys))
      (c.in-Size.ensures.output _ (c.requires.table.parts c.args.number c.requires.number))
      (turn g.O.CellObject.stepped g.O.CellObject.may (opens_of c.args.table.now.shelf) _ _ _ _ _ c.args.number _ _ (name_in c.args.r.now c.args.table.now c.args.number) (c.requires.table.parts c.args.number c.requires.number) refl (c.in-Size.ensures.own.0.stands.lawful c.args.number _ (c.requires.table.parts c.args.number c.requires.number)) c.in-Size.ensures.called),
)

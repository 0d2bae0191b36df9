use Rattle.std.proofs.Common.{ℕ, refl, subst}
use Rattle.lock_book.specs.Shown.{opens_of, number_of, seen_of, mine_of}
use Rattle.dshash_chunks.specs.Held.{stepped}
use Rattle.dshash_parts.specs.Tables.{AtPartition}
use Rattle.dshash_parts.specs.declared.histories.PartitionCalls.TheVariants.{Looks}
use Rattle.dshash_parts.specs.declared.histories.PartitionReplies.TheVariants.{HasSize}
use Rattle.dshash_parts.proofs.Sizes.{turn_legal}
use Rattle.dshash_parts.proofs.Events.{turn}
use Rattle.chunk_table.specs.Tables.{name_in}
use Rattle.chunk_table.proofs.Others.{no_other_draw}
use Rattle.chunk_table.proofs.turns.draw_at.Goals as goal

pub unreachable-requires : goal.unreachable-requires
unreachable-requires g c = no_other_draw (name_in c.args.r.now c.args.table.now c.args.number) c.args.words c.call.result (c.call.ensures.output _ (c.requires.table.parts c.args.number c.requires.number)) c.in_default.not-Drawn c.in_default.not-Size

pub returns-in-Drawn-clause-event : goal.returns-in-Drawn-clause-event
returns-in-Drawn-clause-event g c = turn (stepped g.W.ChunkObject.worked) g.W.ChunkObject.may (opens_of c.args.table.now.shelf) _ _ _ _ _ c.args.number _ _ (name_in c.args.r.now c.args.table.now c.args.number) (c.requires.table.parts c.args.number c.requires.number) refl (c.in-Drawn.ensures.own.0.stands.lawful c.args.number _ (c.requires.table.parts c.args.number c.requires.number)) c.in-Drawn.ensures.called

pub returns-in-Drawn-clause-key : goal.returns-in-Drawn-clause-key
returns-in-Drawn-clause-key g c = (
  (c.in-Drawn.ensures.output _ (c.requires.table.parts c.args.number c.requires.number)).0,
  (turn_legal (stepped g.W.ChunkObject.worked) _ _ _ _ _ c.args.number _ _ (returns-in-Drawn-clause-event g c)).1.ours,
)

pub returns-in-Drawn-clause-here : goal.returns-in-Drawn-clause-here
returns-in-Drawn-clause-here g c = let fits = c.in-Drawn.ensures.output _ (c.requires.table.parts c.args.number c.requires.number) in (fits.1, fits.2, fits.3)

pub returns-in-Size-clause-look : goal.returns-in-Size-clause-look
returns-in-Size-clause-look g c = (
  c.in-Size.field-0,
  subst (λ (keys : ℕ). AtPartition (stepped g.W.ChunkObject.worked) (number_of c.args.pass.now) (seen_of c.args.pass.now) (mine_of c.args.pass.now) (seen_of c.call.new.pass) (mine_of c.call.new.pass) c.args.number Looks (HasSize c.in-Size.field-0 keys)) (c.in-Size.ensures.output _ (c.requires.table.parts c.args.number c.requires.number))
      (turn (stepped g.W.ChunkObject.worked) g.W.ChunkObject.may (opens_of c.args.table.now.shelf) _ _ _ _ _ c.args.number _ _ (name_in c.args.r.now c.args.table.now c.args.number) (c.requires.table.parts c.args.number c.requires.number) refl (c.in-Size.ensures.own.0.stands.lawful c.args.number _ (c.requires.table.parts c.args.number c.requires.number)) c.in-Size.ensures.called),
)

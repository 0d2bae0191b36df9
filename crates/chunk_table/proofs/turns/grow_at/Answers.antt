use Rattle.dshash_chunks.specs.Held.{stepped}
use Rattle.std.proofs.Common.{refl}
use Rattle.lock_book.specs.Shown.{opens_of}
use Rattle.chunk_table.specs.Tables.{name_in}
use Rattle.dshash_parts.proofs.Sizes.{turn_grows, move_tells}
use Rattle.dshash_parts.proofs.Owners.{lawful}
use Rattle.dshash_parts.proofs.Events.{turn}
use Rattle.chunk_table.proofs.Others.{no_other_grow}
use Rattle.chunk_table.proofs.turns.grow_at.Goals as goal

pub unreachable-requires : goal.unreachable-requires
unreachable-requires g c = no_other_grow (name_in c.args.r.now c.args.table.now c.args.number) c.args.size c.args.slice c.call.result (c.call.ensures.output _ (c.requires.table.parts c.args.number c.requires.number)) c.in_default.not-LeftOver

pub returns-clause-event : goal.returns-clause-event
returns-clause-event g c = turn (stepped g.W.ChunkObject.worked) g.W.ChunkObject.may (opens_of c.args.table.now.shelf) _ _ _ _ _ c.args.number _ _ (name_in c.args.r.now c.args.table.now c.args.number) (c.requires.table.parts c.args.number c.requires.number) refl (c.in-LeftOver.ensures.own.0.stands.lawful c.args.number _ (c.requires.table.parts c.args.number c.requires.number)) c.in-LeftOver.ensures.called

pub returns-clause-grows : goal.returns-clause-grows
returns-clause-grows g c = λ k low. turn_grows (stepped g.W.ChunkObject.worked) _ _ _ _ _ c.args.number _ _ k (lawful (stepped g.W.ChunkObject.worked) g.W.ChunkObject.may k _ (c.in-LeftOver.ensures.own.0.stands.lawful k _ (c.requires.table.parts k low))) (returns-clause-event g c)

pub returns-clause-grown : goal.returns-clause-grown
returns-clause-grown g c = move_tells (stepped g.W.ChunkObject.worked) _ _ _ _ _ c.args.number _ _ c.requires.size.1 (returns-clause-event g c)

use Rattle.std.proofs.Common.{refl}
use Rattle.lock_book.specs.Shown.{opens_of}
use Rattle.dshash_core.specs.Listing.{HaveWords, pairs_of}
use Rattle.dshash_chunks.specs.Held.{stepped}
use Rattle.dshash_chunks.specs.Outcomes.{ListsNames}
use Rattle.dshash_parts.proofs.Events.{turn}
use Rattle.chunk_table.specs.Tables.{name_in}
use Rattle.chunk_table.proofs.Others.{no_other_list}
use Rattle.chunk_table.proofs.Founds.{listed_here, long_here}
use Rattle.chunk_table.proofs.table.ChunkTable.list_one.Goals as goal

pub unreachable-requires : goal.unreachable-requires
unreachable-requires g c = no_other_list (name_in c.args.r.now c.args.self.now c.args.partition) c.args.alloc c.call.result (c.call.ensures.output _ (c.requires.table.parts c.args.partition c.requires.number)) c.in_default.not-Listed

pub returns-clause-all : goal.returns-clause-all
returns-clause-all g c =
    let event = turn (stepped g.W.ChunkObject.worked) g.W.ChunkObject.may (opens_of c.args.self.now.shelf) _ _ _ _ _ c.args.partition _ _ (name_in c.args.r.now c.args.self.now c.args.partition) (c.requires.table.parts c.args.partition c.requires.number) refl (c.in-Listed.ensures.own.0.stands.lawful c.args.partition _ (c.requires.table.parts c.args.partition c.requires.number)) c.in-Listed.ensures.called in
    listed_here g.row.W.Denot (stepped g.W.ChunkObject.worked) c.args.self.now.key_words _ _ _ _ _ c.args.partition c.in-Listed.entries c.in-Listed.field-1 event (c.in-Listed.ensures.output _ (c.requires.table.parts c.args.partition c.requires.number))

pub returns-clause-keys : goal.returns-clause-keys
returns-clause-keys g c = long_here (λ v. ListsNames c.in-Listed.field-1.value.cells (pairs_of v.items)) (λ v. HaveWords c.args.self.now.key_words (pairs_of v.items)) c.in-Listed.entries (c.in-Listed.ensures.output _ (c.requires.table.parts c.args.partition c.requires.number))

use Rattle.std.proofs.Common.{refl}
use Rattle.lock_book.specs.Shown.{opens_of, seen_of}
use Rattle.dshash_core.specs.Listing.{pairs_of}
use Rattle.dshash_parts.specs.Tables.{name_in}
use Rattle.dshash_parts.specs.declared.asks.TableAnswer.TheVariants.{Entries}
use Rattle.dshash_parts.proofs.Events.{turn}
use Rattle.dshash_parts.proofs.Tries.{all_listed, answered, entries_fit, is_entries}
use Rattle.dshash_parts.proofs.Visits.{listed_keys}
use Rattle.dshash_parts.proofs.table.Dshash.try_list.Goals as goal

pub returns-in-Ok-clause-event : goal.returns-in-Ok-clause-event
returns-in-Ok-clause-event g c = answered g.O.CellObject.stepped _ _ _ _ _ c.args.partition _ _ (Entries c.listed.result) c.listed.ensures (turn g.O.CellObject.stepped g.O.CellObject.may (opens_of c.args.self.now.shelf) _ _ _ _ _ c.args.partition _ _ (name_in c.args.r.now c.args.self.now c.args.partition) (c.requires.table.parts c.args.partition c.requires.number) refl (c.in-Ok.ensures.own.0.stands.lawful c.args.partition _ (c.requires.table.parts c.args.partition c.requires.number)) c.in-Ok.ensures.called)

pub returns-in-Ok-clause-all : goal.returns-in-Ok-clause-all
returns-in-Ok-clause-all g c = all_listed g.O.CellObject.stepped (λ v. pairs_of v.items) _ _ _ _ _ c.args.partition _ (returns-in-Ok-clause-event g c)

pub returns-in-Ok-clause-keys : goal.returns-in-Ok-clause-keys
returns-in-Ok-clause-keys g c =
    let at = c.requires.table.parts c.args.partition c.requires.number in
    listed_keys g.O.CellObject.stepped g.O.CellObject.may c.args.self.now c.args.partition (λ v. pairs_of v.items) (seen_of c.try_call.new.pass c.args.partition) c.listed.result
    (c.in-Ok.ensures.own.0.stands.lawful c.args.partition _ at) (entries_fit (name_in c.args.r.now c.args.self.now c.args.partition) c.args.alloc c.in-Ok.answer c.listed.result c.listed.ensures (c.in-Ok.ensures.output _ at)) (returns-in-Ok-clause-all g c)

pub listed-requires : goal.listed-requires
listed-requires g c = is_entries (name_in c.args.r.now c.args.self.now c.args.partition) c.args.alloc c.in-Ok.answer (c.in-Ok.ensures.output _ (c.requires.table.parts c.args.partition c.requires.number))

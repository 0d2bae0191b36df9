use Rattle.std.proofs.Common.{refl}
use Rattle.dshash_core.specs.Listing.{pairs_of}
use Rattle.lock_book.specs.Shown.{opens_of, seen_of}
use Rattle.dshash_parts.specs.Tables.{name_in}
use Rattle.dshash_parts.proofs.Events.{turn}
use Rattle.dshash_parts.proofs.Tries.{all_listed}
use Rattle.dshash_parts.proofs.Visits.{listed_keys}
use Rattle.dshash_parts.proofs.table.Dshash.list_one.Goals as goal

pub returns-clause-event : goal.returns-clause-event
returns-clause-event g c = turn g.O.CellObject.stepped g.O.CellObject.may (opens_of c.args.self.now.shelf) _ _ _ _ _ c.args.partition _ _ (name_in c.args.r.now c.args.self.now c.args.partition) (c.requires.table.parts c.args.partition c.requires.number) refl (c.in-Entries.ensures.own.0.stands.lawful c.args.partition _ (c.requires.table.parts c.args.partition c.requires.number)) c.in-Entries.ensures.called

pub returns-clause-all : goal.returns-clause-all
returns-clause-all g c = all_listed g.O.CellObject.stepped (λ v. pairs_of v.items) _ _ _ _ _ c.args.partition _ (returns-clause-event g c)

pub returns-clause-keys : goal.returns-clause-keys
returns-clause-keys g c =
    let at = c.requires.table.parts c.args.partition c.requires.number in
    listed_keys g.O.CellObject.stepped g.O.CellObject.may c.args.self.now c.args.partition (λ v. pairs_of v.items) (seen_of c.call.new.pass c.args.partition) c.in-Entries.entries
    (c.in-Entries.ensures.own.0.stands.lawful c.args.partition _ at) (c.in-Entries.ensures.output _ at) (returns-clause-all g c)

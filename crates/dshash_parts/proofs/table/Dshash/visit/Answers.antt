use Rattle.std.proofs.Common.{◌≡◌, ℕ, ap, refl, is_some, ◌∙◌, subst}
use Rattle.lock_book.specs.Shown.{number_of, seen_of, mine_of}
use Rattle.dshash_core.specs.Key.{hash_of}
use Rattle.dshash_core.specs.Cells.{partition_of}
use Rattle.dshash_parts.specs.Tables.{AtPartition}
use Rattle.dshash_parts.specs.declared.histories.PartitionCalls.TheVariants.{Call}
use Rattle.dshash_parts.specs.declared.histories.PartitionReplies.TheVariants.{Made}
use Rattle.std.proofs.Common.{false}
use Rattle.dshash_parts.proofs.Visits.{hands_back_none, is_visited, was_there}
use Rattle.dshash_parts.proofs.Owners.{allowed, lawful, own_cells}
use Rattle.dshash_parts.proofs.Uses.{seen_cells}
use Rattle.dshash_parts.proofs.table.Dshash.visit.Goals as goal

pub unreachable-requires : goal.unreachable-requires
unreachable-requires g c = is_visited g.O.CellObject.stepped c.args.call.now c.requires.none _ _ _ _ _ c.partition_of_hash-number.result c.args.key.now c.try_at.result c.try_at.ensures.event c.in_default.not-Done

pub returns-clause-event : goal.returns-clause-event
returns-clause-event g c =
    let home = partition_of (hash_of c.args.key.now) in
    let same_at : c.partition_of_hash-number.result ≡ home = c.partition_of_hash-number.ensures.is ∙ ap partition_of c.hash_key-hash.ensures in
    subst (λ (z : ℕ). AtPartition g.O.CellObject.stepped (number_of c.args.pass.now) (seen_of c.args.pass.now) (mine_of c.args.pass.now) (seen_of c.try_at.new.pass) (mine_of c.try_at.new.pass) z (Call c.args.key.now c.args.call.now false) (Made c.in-Done.reply false (is_some c.in-Done.freed))) same_at
    (hands_back_none g.O.CellObject.stepped c.args.call.now c.requires.none _ _ _ _ _ c.partition_of_hash-number.result c.args.key.now c.in-Done.reply (is_some c.in-Done.unused) (is_some c.in-Done.freed) c.in-Done.ensures.event)

pub returns-clause-found : goal.returns-clause-found
returns-clause-found g c =
    let home = partition_of (hash_of c.args.key.now) in
    was_there g.O.CellObject.stepped c.args.call.now c.requires.none _ _ _ _ _ home c.args.key.now refl c.in-Done.reply (is_some c.in-Done.freed) (returns-clause-event g c)

pub returns-clause-last : goal.returns-clause-last
returns-clause-last g c =
    let x = (returns-clause-event g c).here in
    record { before = x.2.before; after = x.2.after; spare = false; unused = false; freed = is_some c.in-Done.freed; ends = x.3.0 ∙ x.2.ends }

pub returns-clause-allowed : goal.returns-clause-allowed
returns-clause-allowed g c = λ k few. allowed g.O.CellObject.stepped g.O.CellObject.may k _ (c.in-Done.ensures.own.stands.lawful k _ (c.requires.table.parts k few))

pub returns-clause-owned : goal.returns-clause-owned
returns-clause-owned g c = own_cells g.O.CellObject.stepped g.O.CellObject.may (number_of c.try_at.new.pass) (number_of c.args.pass.now) (seen_of c.try_at.new.pass) (mine_of c.try_at.new.pass) c.in-Done.ensures.caller (λ k few. c.in-Done.ensures.own.stands.lawful k _ (c.requires.table.parts k few)) c.in-Done.ensures.own.stands.own

pub returns-clause-cells : goal.returns-clause-cells
returns-clause-cells g c = seen_cells g.O.CellObject.stepped (seen_of c.try_at.new.pass) (λ k few. lawful g.O.CellObject.stepped g.O.CellObject.may k _ (c.in-Done.ensures.own.stands.lawful k _ (c.requires.table.parts k few)))

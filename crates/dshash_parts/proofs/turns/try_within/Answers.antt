use Rattle.std.proofs.Common.{List, ℕ, is_some, refl, subst}
use Rattle.lock_book.specs.Shown.{opens_of, number_of, seen_of, mine_of}
use Rattle.dshash_parts.specs.Asked.{outcome_of}
use Rattle.dshash_parts.specs.Tables.{name_in, AtPartition}
use Rattle.dshash_parts.specs.declared.histories.PartitionCalls.TheVariants.{Call}
use Rattle.dshash_parts.specs.declared.histories.PartitionReplies.TheVariants.{Crowded}
use Rattle.dshash_parts.proofs.Sizes.{turn_grows}
use Rattle.dshash_parts.proofs.Owners.{lawful}
use Rattle.dshash_parts.proofs.Events.{turn, no_other_within}
use Rattle.dshash_parts.proofs.turns.try_within.Goals as goal

pub unreachable-requires : goal.unreachable-requires
unreachable-requires g c = no_other_within (name_in c.args.r.now c.args.table.now c.args.number) c.args.longest c.args.hash c.of.result c.args.call.now c.args.spare c.call.result (c.call.ensures.output _ (c.requires.table.parts c.args.number c.requires.number)) c.in_default.not-Came c.in_default.not-Long

pub returns-in-Came-clause-event : goal.returns-in-Came-clause-event
returns-in-Came-clause-event g c =
    let event = turn g.O.CellObject.stepped g.O.CellObject.may (opens_of c.args.table.now.shelf) _ _ _ _ _ c.args.number _ _ (name_in c.args.r.now c.args.table.now c.args.number) (c.requires.table.parts c.args.number c.requires.number) refl (c.in-Came.ensures.own.0.stands.lawful c.args.number _ (c.requires.table.parts c.args.number c.requires.number)) c.in-Came.ensures.called in
    subst (λ (z : List ℕ). AtPartition g.O.CellObject.stepped (number_of c.args.pass.now) (seen_of c.args.pass.now) (mine_of c.args.pass.now) (seen_of c.call.new.pass) (mine_of c.call.new.pass) c.args.number (Call z c.args.call.now (is_some c.args.spare)) (outcome_of c.in-Came.out)) c.of.ensures event

pub returns-in-Came-clause-grows : goal.returns-in-Came-clause-grows
returns-in-Came-clause-grows g c = λ k low. turn_grows g.O.CellObject.stepped _ _ _ _ _ c.args.number _ _ k (lawful g.O.CellObject.stepped g.O.CellObject.may k _ (c.in-Came.ensures.own.0.stands.lawful k _ (c.requires.table.parts k low))) (returns-in-Came-clause-event g c)

pub returns-in-Long-clause-crowded : goal.returns-in-Long-clause-crowded
returns-in-Long-clause-crowded g c =
    let fits = c.in-Long.ensures.output _ (c.requires.table.parts c.args.number c.requires.number) in
    let event = turn g.O.CellObject.stepped g.O.CellObject.may (opens_of c.args.table.now.shelf) _ _ _ _ _ c.args.number _ _ (name_in c.args.r.now c.args.table.now c.args.number) (c.requires.table.parts c.args.number c.requires.number) refl (c.in-Long.ensures.own.0.stands.lawful c.args.number _ (c.requires.table.parts c.args.number c.requires.number)) c.in-Long.ensures.called in
    subst (λ (z : ℕ). AtPartition g.O.CellObject.stepped (number_of c.args.pass.now) (seen_of c.args.pass.now) (mine_of c.args.pass.now) (seen_of c.call.new.pass) (mine_of c.call.new.pass) c.args.number (Call c.args.key.now c.args.call.now (is_some c.args.spare)) (Crowded c.args.table.now.seed z (is_some c.in-Long.spare))) fits.1
    (subst (λ (z : ℕ). AtPartition g.O.CellObject.stepped (number_of c.args.pass.now) (seen_of c.args.pass.now) (mine_of c.args.pass.now) (seen_of c.call.new.pass) (mine_of c.call.new.pass) c.args.number (Call c.args.key.now c.args.call.now (is_some c.args.spare)) (Crowded z c.in-Long.field-1 (is_some c.in-Long.spare))) fits.0
    (subst (λ (z : List ℕ). AtPartition g.O.CellObject.stepped (number_of c.args.pass.now) (seen_of c.args.pass.now) (mine_of c.args.pass.now) (seen_of c.call.new.pass) (mine_of c.call.new.pass) c.args.number (Call z c.args.call.now (is_some c.args.spare)) (Crowded c.in-Long.field-0 c.in-Long.field-1 (is_some c.in-Long.spare))) c.of.ensures event))

pub returns-in-Long-clause-grows : goal.returns-in-Long-clause-grows
returns-in-Long-clause-grows g c = λ k low. turn_grows g.O.CellObject.stepped _ _ _ _ _ c.args.number _ _ k (lawful g.O.CellObject.stepped g.O.CellObject.may k _ (c.in-Long.ensures.own.0.stands.lawful k _ (c.requires.table.parts k low))) (returns-in-Long-clause-crowded g c)

pub returns-in-Long-clause-back : goal.returns-in-Long-clause-back
returns-in-Long-clause-back g c = (c.in-Long.ensures.output _ (c.requires.table.parts c.args.number c.requires.number)).2

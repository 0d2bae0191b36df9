use Rattle.std.proofs.Common.{◌≡◌, ℕ, List, is_some, refl, ap, ◌∙◌, subst}
use Rattle.lock_book.specs.Shown.{opens_of, number_of, seen_of, mine_of}
use Rattle.dshash_core.specs.Key.{hash_of}
use Rattle.dshash_core.specs.Cells.{partition_of}
use Rattle.dshash_parts.specs.Asked.{outcome_of}
use Rattle.dshash_parts.specs.Tables.{name_in, AtPartition}
use Rattle.dshash_parts.specs.declared.asks.TableAnswer.TheVariants.{Came}
use Rattle.dshash_parts.specs.declared.histories.PartitionCalls.TheVariants.{Call}
use Rattle.dshash_parts.proofs.Events.{turn}
use Rattle.dshash_parts.proofs.Owners.{allowed, lawful, own_cells}
use Rattle.dshash_parts.proofs.Tries.{answered, is_came, tells}
use Rattle.dshash_parts.proofs.Uses.{seen_cells}
use Rattle.dshash_parts.proofs.table.Dshash.try_call.Goals as goal

pub returns-in-Ok-clause-event : goal.returns-in-Ok-clause-event
returns-in-Ok-clause-event g c =
    let home = partition_of (hash_of c.args.key.now) in
    let n = c.partition_of_hash-number.result in
    let same_at : n ≡ home = c.partition_of_hash-number.ensures.is ∙ ap partition_of c.hash_key-hash.ensures in
    let there = c.requires.table.parts n c.partition_of_hash-number.ensures.range in
    let event = answered g.O.CellObject.stepped _ _ _ _ _ n _ _ (Came c.came.result) c.came.ensures (turn g.O.CellObject.stepped g.O.CellObject.may (opens_of c.args.self.now.shelf) _ _ _ _ _ n _ _ (name_in c.args.r.now c.args.self.now n) there refl (c.in-Ok.ensures.own.0.stands.lawful n _ there) c.in-Ok.ensures.called) in
    subst (λ (z : ℕ × List ℕ). AtPartition g.O.CellObject.stepped (number_of c.args.pass.now) (seen_of c.args.pass.now) (mine_of c.args.pass.now) (seen_of c.try_call.new.pass) (mine_of c.try_call.new.pass) z.0 (Call z.1 c.args.call.now (is_some c.args.spare)) (outcome_of c.came.result)) (λ i. (same_at i, c.of.ensures i)) event

pub returns-in-Ok-clause-told : goal.returns-in-Ok-clause-told
returns-in-Ok-clause-told g c = tells g.O.CellObject.stepped _ _ _ _ _ c.args.key.now c.args.call.now (is_some c.args.spare) c.came.result (returns-in-Ok-clause-event g c)

pub returns-in-Ok-clause-allowed : goal.returns-in-Ok-clause-allowed
returns-in-Ok-clause-allowed g c = λ k few. allowed g.O.CellObject.stepped g.O.CellObject.may k _ (c.in-Ok.ensures.own.0.stands.lawful k _ (c.requires.table.parts k few))

pub returns-in-Ok-clause-owned : goal.returns-in-Ok-clause-owned
returns-in-Ok-clause-owned g c = own_cells g.O.CellObject.stepped g.O.CellObject.may (number_of c.try_call.new.pass) (number_of c.args.pass.now) (seen_of c.try_call.new.pass) (mine_of c.try_call.new.pass) c.in-Ok.ensures.own.1 (λ k few. c.in-Ok.ensures.own.0.stands.lawful k _ (c.requires.table.parts k few)) c.in-Ok.ensures.own.0.stands.own

pub returns-in-Ok-clause-cells : goal.returns-in-Ok-clause-cells
returns-in-Ok-clause-cells g c = seen_cells g.O.CellObject.stepped (seen_of c.try_call.new.pass) (λ k few. lawful g.O.CellObject.stepped g.O.CellObject.may k _ (c.in-Ok.ensures.own.0.stands.lawful k _ (c.requires.table.parts k few)))

pub returns-in-Err-Make-clause-allowed : goal.returns-in-Err-Make-clause-allowed
returns-in-Err-Make-clause-allowed g c = λ k few. allowed g.O.CellObject.stepped g.O.CellObject.may k _ (c.in-Err-Make.ensures.own.0.stands.lawful k _ (c.requires.table.parts k few))

pub returns-in-Err-Make-clause-owned : goal.returns-in-Err-Make-clause-owned
returns-in-Err-Make-clause-owned g c = own_cells g.O.CellObject.stepped g.O.CellObject.may (number_of c.try_call.new.pass) (number_of c.args.pass.now) (seen_of c.try_call.new.pass) (mine_of c.try_call.new.pass) c.in-Err-Make.ensures.own.1 (λ k few. c.in-Err-Make.ensures.own.0.stands.lawful k _ (c.requires.table.parts k few)) c.in-Err-Make.ensures.own.0.stands.own

pub returns-in-Err-Make-clause-cells : goal.returns-in-Err-Make-clause-cells
returns-in-Err-Make-clause-cells g c = seen_cells g.O.CellObject.stepped (seen_of c.try_call.new.pass) (λ k few. lawful g.O.CellObject.stepped g.O.CellObject.may k _ (c.in-Err-Make.ensures.own.0.stands.lawful k _ (c.requires.table.parts k few)))

pub came-requires : goal.came-requires
came-requires g c =
    let n = c.partition_of_hash-number.result in
    let there = c.requires.table.parts n c.partition_of_hash-number.ensures.range in
    is_came (name_in c.args.r.now c.args.self.now n) c.own_hash-own.result c.of.result c.args.call.now c.args.spare c.in-Ok.answer (c.in-Ok.ensures.output _ there)

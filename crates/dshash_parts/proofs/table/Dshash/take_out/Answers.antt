use Rattle.std.proofs.Common.{Option, Some, None, IfSome, IfNone, refl, sym}
use Rattle.lock_book.specs.Shown.{number_of, seen_of, mine_of}
use Rattle.dshash_parts.proofs.Owners.{allowed, lawful, own_cells}
use Rattle.dshash_parts.proofs.Sizes.{look_counts}
use Rattle.dshash_parts.proofs.Takings.{taken_out}
use Rattle.dshash_parts.proofs.Uses.{seen_cells}
use Rattle.dshash_parts.proofs.table.Dshash.take_out.Goals as goal

where_some : {A : Type 0} {P Q : A → Type 0} (o : Option A) → ((x : A) → P x → Q x) → IfSome o P → IfSome o Q
where_some (Some x) f h = f x h
where_some None f h = tt

where_none : {A : Type 0} {P Q : Type 0} (o : Option A) → (P → Q) → IfNone o P → IfNone o Q
where_none (Some x) f h = tt
where_none None f h = f h

pub returns-in_err-words-clause-allowed : goal.returns-in_err-words-clause-allowed
returns-in_err-words-clause-allowed g c = λ k few. allowed g.O.CellObject.stepped g.O.CellObject.may k _ (c.requires.own.stands.lawful k _ (c.requires.table.parts k few))

pub returns-in_err-words-clause-owned : goal.returns-in_err-words-clause-owned
returns-in_err-words-clause-owned g c = own_cells g.O.CellObject.stepped g.O.CellObject.may (number_of c.args.pass.now) (number_of c.args.pass.now) (seen_of c.args.pass.now) (mine_of c.args.pass.now) refl (λ k few. c.requires.own.stands.lawful k _ (c.requires.table.parts k few)) c.requires.own.stands.own

pub returns-in_err-words-clause-cells : goal.returns-in_err-words-clause-cells
returns-in_err-words-clause-cells g c = seen_cells g.O.CellObject.stepped (seen_of c.args.pass.now) (λ k few. lawful g.O.CellObject.stepped g.O.CellObject.may k _ (c.requires.own.stands.lawful k _ (c.requires.table.parts k few)))

pub returns-clause-taken : goal.returns-clause-taken
returns-clause-taken g c = where_some c.take_turn.result (λ e turn. taken_out g.O.CellObject.stepped c.args.call.now c.requires.removes (number_of c.args.pass.now) _ _ _ _ c.args.partition e.key e.reply turn) c.take_turn.ensures.event

pub returns-clause-none : goal.returns-clause-none
returns-clause-none g c = where_none c.take_turn.result (λ look. sym (look_counts g.O.CellObject.stepped (number_of c.args.pass.now) (seen_of c.args.pass.now) (mine_of c.args.pass.now) (seen_of c.take_turn.new.pass) (mine_of c.take_turn.new.pass) c.args.partition look.0 0 look.1)) c.take_turn.ensures.look

pub returns-clause-allowed : goal.returns-clause-allowed
returns-clause-allowed g c = λ k few. allowed g.O.CellObject.stepped g.O.CellObject.may k _ (c.take_turn.ensures.own.stands.lawful k _ (c.requires.table.parts k few))

pub returns-clause-owned : goal.returns-clause-owned
returns-clause-owned g c = own_cells g.O.CellObject.stepped g.O.CellObject.may (number_of c.take_turn.new.pass) (number_of c.args.pass.now) (seen_of c.take_turn.new.pass) (mine_of c.take_turn.new.pass) c.take_turn.ensures.caller (λ k few. c.take_turn.ensures.own.stands.lawful k _ (c.requires.table.parts k few)) c.take_turn.ensures.own.stands.own

pub returns-clause-cells : goal.returns-clause-cells
returns-clause-cells g c = seen_cells g.O.CellObject.stepped (seen_of c.take_turn.new.pass) (λ k few. lawful g.O.CellObject.stepped g.O.CellObject.may k _ (c.take_turn.ensures.own.stands.lawful k _ (c.requires.table.parts k few)))

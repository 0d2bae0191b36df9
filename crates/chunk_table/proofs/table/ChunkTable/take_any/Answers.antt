use Rattle.std.proofs.Common.{Option, Some, None, IfSome, IfNone, refl, sym}
use Rattle.lock_book.specs.Shown.{number_of, seen_of, mine_of}
use Rattle.dshash_chunks.specs.Held.{held_in, stepped}
use Rattle.dshash_chunks.specs.declared.held.ChunkCalls.TheVariants as chunk
use Rattle.dshash_chunks.specs.declared.held.ChunkReplies.TheVariants as said
use Rattle.dshash_parts.proofs.Sizes.{look_counts}
use Rattle.dshash_parts.proofs.Owners.{allowed, lawful, own_cells}
use Rattle.dshash_parts.proofs.Takings.{taken_out}
use Rattle.dshash_parts.proofs.Uses.{seen_cells}
use Rattle.chunk_table.proofs.table.ChunkTable.take_any.Goals as goal

where_some : {A : Type 0} {P Q : A → Type 0} (o : Option A) → ((x : A) → P x → Q x) → IfSome o P → IfSome o Q
where_some (Some x) f h = f x h
where_some None f h = tt

where_none : {A : Type 0} {P Q : Type 0} (o : Option A) → (P → Q) → IfNone o P → IfNone o Q
where_none (Some x) f h = tt
where_none None f h = f h

pub returns-in_err-words-clause-allowed : goal.returns-in_err-words-clause-allowed
returns-in_err-words-clause-allowed g c = λ k few. allowed (stepped g.W.ChunkObject.worked) g.W.ChunkObject.may k _ (c.requires.own.stands.lawful k _ (c.requires.table.parts k few))

pub returns-in_err-words-clause-owned : goal.returns-in_err-words-clause-owned
returns-in_err-words-clause-owned g c = own_cells (stepped g.W.ChunkObject.worked) g.W.ChunkObject.may (number_of c.args.pass.now) (number_of c.args.pass.now) (seen_of c.args.pass.now) (mine_of c.args.pass.now) refl (λ k few. c.requires.own.stands.lawful k _ (c.requires.table.parts k few)) c.requires.own.stands.own

pub returns-in_err-words-clause-cells : goal.returns-in_err-words-clause-cells
returns-in_err-words-clause-cells g c = seen_cells (stepped g.W.ChunkObject.worked) (seen_of c.args.pass.now) (λ k few. lawful (stepped g.W.ChunkObject.worked) g.W.ChunkObject.may k _ (c.requires.own.stands.lawful k _ (c.requires.table.parts k few)))

pub returns-clause-taken : goal.returns-clause-taken
returns-clause-taken g c = where_some c.draw_at.result (λ e event. taken_out (stepped g.W.ChunkObject.worked) chunk.Take (λ s. refl) (number_of c.args.pass.now) _ _ _ _ c.args.partition e.key (said.Was (Some (held_in e.chunk))) event) c.draw_at.ensures.event

pub returns-clause-none : goal.returns-clause-none
returns-clause-none g c = where_none c.draw_at.result (λ look. sym (look_counts (stepped g.W.ChunkObject.worked) (number_of c.args.pass.now) (seen_of c.args.pass.now) (mine_of c.args.pass.now) (seen_of c.draw_at.new.pass) (mine_of c.draw_at.new.pass) c.args.partition look.0 0 look.1)) c.draw_at.ensures.look

pub returns-clause-here : goal.returns-clause-here
returns-clause-here g c = where_some c.draw_at.result (λ e h. h.0) c.draw_at.ensures.here

pub returns-clause-item : goal.returns-clause-item
returns-clause-item g c = where_some c.draw_at.result (λ e h. (h.1, h.2)) c.draw_at.ensures.here

pub returns-clause-allowed : goal.returns-clause-allowed
returns-clause-allowed g c = λ k few. allowed (stepped g.W.ChunkObject.worked) g.W.ChunkObject.may k _ (c.draw_at.ensures.own.stands.lawful k _ (c.requires.table.parts k few))

pub returns-clause-owned : goal.returns-clause-owned
returns-clause-owned g c = own_cells (stepped g.W.ChunkObject.worked) g.W.ChunkObject.may (number_of c.draw_at.new.pass) (number_of c.args.pass.now) (seen_of c.draw_at.new.pass) (mine_of c.draw_at.new.pass) c.draw_at.ensures.caller (λ k few. c.draw_at.ensures.own.stands.lawful k _ (c.requires.table.parts k few)) c.draw_at.ensures.own.stands.own

pub returns-clause-cells : goal.returns-clause-cells
returns-clause-cells g c = seen_cells (stepped g.W.ChunkObject.worked) (seen_of c.draw_at.new.pass) (λ k few. lawful (stepped g.W.ChunkObject.worked) g.W.ChunkObject.may k _ (c.draw_at.ensures.own.stands.lawful k _ (c.requires.table.parts k few)))

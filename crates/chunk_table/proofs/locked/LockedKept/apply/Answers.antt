use Rattle.std.proofs.Common.{List, ℕ, is_some, unwrap_or, sym, ap, subst, ◌∙◌, nat_cmp}
use Rattle.std.specs.Cmp.Lexicographic.{slice_cmp}
use Rattle.std.specs.FinMap as fin
use Rattle.dshash_chunks.specs.declared.held.Held.{Held}
use Rattle.dshash_chunks.specs.Held.{held_in, stepped}
use Rattle.dshash_chunks.specs.Outcomes.{IsPutOut}
use Rattle.dshash_parts.specs.Asked.{name_of, state_of}
use Rattle.dshash_parts.specs.Legal.{MayTurn, PartitionLegal}
use Rattle.chunk_table.specs.Asked.{AnswerFits, AskFits, MayAsk, call_of, chosen_of, reply_of}
use Rattle.chunk_table.specs.declared.asks.ChunkAnswer.TheVariants.{Listed, Out, Placed, Size}
use Rattle.chunk_table.proofs.Legals.{list_legal, put_legal}
use Rattle.chunk_table.proofs.locked.LockedKept.apply.Goals as goal

pub returns-in-Put-clause-legal : goal.returns-in-Put-clause-legal
returns-in-Put-clause-legal g c = λ n fits ours.
    let name = name_of c.args.self.now.number c.args.self.now.partition in
    let answer = Placed c.try_put.result in
    subst (λ ask. AskFits name ask × MayAsk g.W.ChunkObject.may c.args.self.now.number n ask → PartitionLegal (stepped g.W.ChunkObject.worked) c.args.self.now.number (state_of c.args.self.now.partition) (unwrap_or (chosen_of ask answer) (call_of ask)) (reply_of answer) (state_of c.try_put.new.self) × MayTurn g.W.ChunkObject.may n (unwrap_or (chosen_of ask answer) (call_of ask))) (sym c.in-Put.is)
    (λ f. (
      put_legal (stepped g.W.ChunkObject.worked) c.args.self.now.number c.in-Put.key (held_in c.in-Put.chunk) (is_some c.in-Put.spare) c.try_put.result c.args.self.now.partition c.try_put.new.self c.try_put.ensures.same
          (subst (λ (k : List ℕ). IsPutOut (stepped g.W.ChunkObject.worked) c.args.self.now.partition.size c.args.self.now.partition.cells k (held_in c.in-Put.chunk) (is_some c.in-Put.spare) c.try_put.result c.try_put.new.self.cells) c.words.ensures c.try_put.ensures.outcome)
          c.try_put.ensures.roomy f.0.2,
      f.1,
    )) fits

pub returns-in-Take-clause-output : goal.returns-in-Take-clause-output
returns-in-Take-clause-output g c = subst (λ ask. AnswerFits (name_of c.args.self.now.number c.args.self.now.partition) ask (Out c.try_take.result)) (sym c.in-Take.is) (c.try_take.ensures.chunk, c.try_take.ensures.item)

pub returns-in-List-clause-legal : goal.returns-in-List-clause-legal
returns-in-List-clause-legal g c = λ n fits ours.
    let answer = Listed c.list-entries.result c.of.result in
    subst (λ ask. PartitionLegal (stepped g.W.ChunkObject.worked) c.args.self.now.number (state_of c.args.self.now.partition) (unwrap_or (chosen_of ask answer) (call_of ask)) (reply_of answer) (state_of c.list-entries.new.self) × MayTurn g.W.ChunkObject.may n (unwrap_or (chosen_of ask answer) (call_of ask))) (sym c.in-List.is)
    (list_legal g.row.W.Denot (stepped g.W.ChunkObject.worked) c.args.self.now.number c.list-entries.result c.of.result c.args.self.now.partition c.list-entries.new.self c.list-entries.ensures.same c.of.ensures c.list-entries.ensures.roomy, tt)

pub returns-in-None-clause-output : goal.returns-in-None-clause-output
returns-in-None-clause-output g c =
    let none = c.in-None.ensures.none in
    subst (λ ask. AnswerFits (name_of c.args.self.now.number c.args.self.now.partition) ask (Size c.size-in-None.result c.count-in-None.result)) (sym c.in-Draw.is)
    (c.count-in-None.ensures.is ∙ (ap (λ p. fin.len p.cells) none.1 ∙ (ap fin.len none.0 ∙ fin.len-empty (slice_cmp nat_cmp) Held)))

use Rattle.std.proofs.Common.{◌≡◌, ℕ, true, false, Some, None, option_map, sym, ap, subst, ◌∙◌}
use Rattle.std.specs.FinMap as fin
use Rattle.dshash_core.specs.Cells.{IsRoomy, PartitionView}
use Rattle.dshash_core.specs.Outcome.{IsDone}
use Rattle.dshash_chunks.specs.declared.held.Held.{Held}
use Rattle.dshash_chunks.specs.declared.held.ChunkCalls.TheVariants.{Take}
use Rattle.dshash_chunks.specs.declared.held.ChunkReplies.TheVariants.{Was}
use Rattle.dshash_chunks.specs.Held.{held_in, stepped}
use Rattle.dshash_chunks.specs.Stored.{IsStored, chunks_seen, shown}
use Rattle.dshash_chunks.proofs.Shown.{empty-shown, follows, len-shown}
use Rattle.dshash_chunks.proofs.Frames.{cut_keeps, cut_stored, keep_others, storing}
use Rattle.dshash_chunks.proofs.Done.{take_done}
use Rattle.dshash_chunks.proofs.partition.ChunkPartition.take_any.Goals as goal

pub returns-in_default-clause-none : goal.returns-in_default-clause-none
returns-in_default-clause-none g c =
    let none = c.in_default.ensures.none in (
      sym (ap (λ w. w.cells) c.self.view_is) ∙ (ap (λ m. shown c.self.inside.store.words m) none.0 ∙ empty-shown c.self.inside.store.words),
      ap (λ p. chunks_seen p c.self.inside.store) none.1 ∙ c.self.view_is,
    )

pub returns-in_default-clause-roomy : goal.returns-in_default-clause-roomy
returns-in_default-clause-roomy g c = subst (λ (n : ℕ). IsRoomy c.take_any.new.self.size n) (sym (len-shown c.self.inside.store.words c.take_any.new.self.cells)) c.in_default.ensures.roomy

pub invariant_of-self-2 : goal.invariant_of-self-2
invariant_of-self-2 g c =
    let d = c.in-Some.ensures.taken in
    let names = c.self.inside.names in
    let store = c.self.inside.store in
    let key = c.in-Some.taken.key in
    let old = Some c.in-Some-reply.name in
    let was : fin.get names.cells key ≡ old = sym d.replied ∙ c.in-Some-reply.is in
    storing names c.take_any.new.self store c.cut-chunk.new.store c.in-Some.ensures.same c.self.invariant.here (ap (λ o. o.region) c.cut-chunk.ensures.rest)
    (subst (λ m. IsStored m c.take_any.new.self.cells) (sym (ap (λ o. o.words) c.cut-chunk.ensures.rest))
    (cut_stored store.words names.cells c.take_any.new.self.cells key old was c.self.invariant.stored (follows names.cells c.take_any.new.self.cells key None d.steps)))

pub returns-clause-taken : goal.returns-clause-taken
returns-clause-taken g c =
    let d = c.in-Some.ensures.taken in
    let names = c.self.inside.names in
    let store = c.self.inside.store in
    let key = c.in-Some.taken.key in
    let was : fin.get names.cells key ≡ Some c.in-Some-reply.name = sym d.replied ∙ c.in-Some-reply.is in
    let keep = cut_keeps store.words names.cells key (Some c.in-Some-reply.name) was c.self.invariant.stored in
    let words = ap (λ o. o.words) c.cut-chunk.ensures.rest in
    subst (λ (w : PartitionView Held). IsDone (stepped g.W.ChunkObject.worked) w.size w.cells key Take false (Was (Some (held_in c.cut-chunk.result))) false true (shown c.cut-chunk.new.store.words c.take_any.new.self.cells)) c.self.view_is
    (subst (λ m. IsDone (stepped g.W.ChunkObject.worked) names.size (shown store.words names.cells) key Take false (Was (Some (held_in c.cut-chunk.result))) false true (shown m c.take_any.new.self.cells)) (sym words)
    (take_done g.W.ChunkObject.worked store.words _ names.cells c.take_any.new.self.cells key names.size c.in-Some.taken.reply (Some c.cut-chunk.result) false true d (keep_others _ _ _ _ keep) (ap Some c.cut-chunk.ensures.chunk ∙ sym (ap (option_map _) c.in-Some-reply.is))))

pub returns-clause-roomy : goal.returns-clause-roomy
returns-clause-roomy g c = subst (λ (n : ℕ). IsRoomy c.take_any.new.self.size n) (sym (len-shown c.cut-chunk.new.store.words c.take_any.new.self.cells)) c.in-Some.ensures.roomy

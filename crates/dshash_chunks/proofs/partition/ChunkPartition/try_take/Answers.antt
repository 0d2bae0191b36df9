use Rattle.std.proofs.Common.{ℕ, false, None, is_some, option_map, sym, ap, subst}
use Rattle.dshash_core.specs.Cells.{IsRoomy, PartitionView}
use Rattle.dshash_core.specs.Outcome.{IsDone}
use Rattle.dshash_chunks.specs.declared.held.Held.{Held}
use Rattle.dshash_chunks.specs.declared.held.ChunkCalls.TheVariants.{Take}
use Rattle.dshash_chunks.specs.declared.held.ChunkReplies.TheVariants.{Was}
use Rattle.dshash_chunks.specs.Held.{held_in, stepped}
use Rattle.dshash_chunks.specs.Stored.{IsStored, shown, without}
use Rattle.dshash_chunks.proofs.Shown.{follows, len-shown}
use Rattle.dshash_chunks.proofs.Frames.{cut_keeps, cut_stored, keep_others, storing}
use Rattle.dshash_chunks.proofs.Done.{take_done}
use Rattle.dshash_chunks.proofs.partition.ChunkPartition.try_take.Goals as goal

pub invariant_of-self : goal.invariant_of-self
invariant_of-self g c =
    let d = c.in-Done.ensures.outcome in
    let names = c.self.inside.names in
    let now = c.try_call_with_hash.new.self in
    let store = c.self.inside.store in
    let key = c.args.key.now in
    storing names now store c.cut_if.new.store c.in-Done.ensures.same c.self.invariant.here (ap (λ o. o.region) c.cut_if.ensures.rest)
    (subst (λ m. IsStored m now.cells) (sym (ap (λ o. o.words) c.cut_if.ensures.rest))
    (cut_stored store.words names.cells now.cells key c.in-Done.reply (sym d.replied) c.self.invariant.stored (follows names.cells now.cells key None d.steps)))

pub returns-clause-outcome : goal.returns-clause-outcome
returns-clause-outcome g c =
    let d = c.in-Done.ensures.outcome in
    let names = c.self.inside.names in
    let now = c.try_call_with_hash.new.self in
    let store = c.self.inside.store in
    let key = c.args.key.now in
    let keep = cut_keeps store.words names.cells key c.in-Done.reply (sym d.replied) c.self.invariant.stored in
    subst (λ (w : PartitionView Held). IsDone (stepped g.W.ChunkObject.worked) w.size w.cells key Take false (Was (option_map held_in c.cut_if.result)) false (is_some c.in-Done.freed) (shown c.cut_if.new.store.words now.cells)) c.self.view_is
    (subst (λ m. IsDone (stepped g.W.ChunkObject.worked) names.size (shown store.words names.cells) key Take false (Was (option_map held_in c.cut_if.result)) false (is_some c.in-Done.freed) (shown m now.cells)) (sym (ap (λ o. o.words) c.cut_if.ensures.rest))
    (take_done g.W.ChunkObject.worked store.words (without store.words c.in-Done.reply) names.cells now.cells key names.size c.in-Done.reply c.cut_if.result (is_some c.in-Done.unused) (is_some c.in-Done.freed) d (keep_others _ _ _ _ keep) c.cut_if.ensures.chunk))

pub returns-clause-roomy : goal.returns-clause-roomy
returns-clause-roomy g c = subst (λ (n : ℕ). IsRoomy c.try_call_with_hash.new.self.size n) (sym (len-shown c.cut_if.new.store.words c.try_call_with_hash.new.self.cells)) c.in-Done.ensures.roomy

use Rattle.std.proofs.Common.{◌≡◌, ◌/◌, ℕ, false, Option, Some, None, is_some, refl, sym, ap, subst, ◌∙◌}
use Rattle.std.specs.FinMap as fin
use Rattle.word_map.specs.WordMap.{HasJust, union, Disjoint}
use Rattle.dshash_core.specs.Cells.{IsRoomy, PartitionView}
use Rattle.dshash_core.specs.Outcome.{changed, IsDone}
use Rattle.dshash_chunks.specs.declared.held.Held.{Held}
use Rattle.dshash_chunks.specs.declared.held.ChunkCalls.TheVariants.{With}
use Rattle.dshash_chunks.specs.declared.held.ChunkReplies.TheVariants.{Did}
use Rattle.dshash_chunks.specs.declared.name.ChunkName.{ChunkName}
use Rattle.dshash_chunks.specs.Held.{stepped}
use Rattle.dshash_chunks.specs.Stored.{IsStored, shown, without}
use Rattle.dshash_chunks.proofs.Shown.{follows, len-shown}
use Rattle.dshash_chunks.proofs.Frames.{held_named, keep_others, put_held, put_keeps, put_stored, same_stored, storing, worked_held}
use Rattle.dshash_chunks.proofs.Done.{with_done, without_done}
use Rattle.dshash_chunks.proofs.partition.ChunkPartition.try_with.Goals as goal

-- a name that isn't some is none
none_of : (o : Option ChunkName) → ((n : ChunkName) → o ≡ Some n → ⊥) → o ≡ None
none_of (Some n) h = absurd (h n refl)
none_of None h = refl

pub invariant_of-self : goal.invariant_of-self
invariant_of-self g c =
    let d = c.in-Done.ensures.outcome in
    let names = c.self.inside.names in
    let now = c.try_call_with_hash.new.self in
    storing names now c.self.inside.store c.self.inside.store c.in-Done.ensures.same c.self.invariant.here refl
    (same_stored c.self.inside.store.words names.cells now.cells c.args.key.now c.self.invariant.stored (follows names.cells now.cells c.args.key.now (fin.get names.cells c.args.key.now) d.steps))

pub returns-in_default-reply-clause-outcome : goal.returns-in_default-reply-clause-outcome
returns-in_default-reply-clause-outcome g c =
    let d = c.in-Done.ensures.outcome in
    let names = c.self.inside.names in
    let now = c.try_call_with_hash.new.self in
    let store = c.self.inside.store in
    subst (λ (w : PartitionView Held). IsDone (stepped g.W.ChunkObject.worked) w.size w.cells c.args.key.now (With c.args.call.now) false (Did None) false false (shown store.words now.cells)) c.self.view_is
    (without_done g.W.ChunkObject.worked store.words store.words names.cells now.cells c.args.key.now names.size c.args.call.now c.in-Done.reply (is_some c.in-Done.unused) (is_some c.in-Done.freed) d (none_of c.in-Done.reply c.in_default-reply.not-Some) (λ q n ne e. refl))

pub returns-in_default-reply-clause-roomy : goal.returns-in_default-reply-clause-roomy
returns-in_default-reply-clause-roomy g c = subst (λ (n : ℕ). IsRoomy c.try_call_with_hash.new.self.size n) (sym (len-shown c.self.inside.store.words c.try_call_with_hash.new.self.cells)) c.in-Done.ensures.roomy

pub cut-chunk-requires-clause-name : goal.cut-chunk-requires-clause-name
cut-chunk-requires-clause-name g c = c.self.invariant.stored.chunks c.args.key.now c.in-Some.name (sym c.in-Done.ensures.outcome.replied ∙ c.in-Some.is)

pub invariant_of-self-in-Done : goal.invariant_of-self-in-Done
invariant_of-self-in-Done g c =
    let d = c.in-Done.ensures.outcome in
    let names = c.self.inside.names in
    let now = c.try_call_with_hash.new.self in
    let store = c.self.inside.store in
    let key = c.args.key.now in
    let n = c.in-Some.name in
    let chunk = c.work-answer.new.chunk in
    let was : fin.get names.cells key ≡ Some n = sym d.replied ∙ c.in-Some.is in
    let cut = ap (λ o. o.words) c.cut-chunk.ensures.rest in
    let apart = subst (λ m. Disjoint m chunk.part.words) cut c.lay.ensures.apart in
    let at : chunk.at ≡ n.at = c.work-answer.ensures.place.0 ∙ ap (λ h. h.at) c.cut-chunk.ensures.chunk in
    let bytes : chunk.bytes ≡ n.bytes = c.work-answer.ensures.place.1 ∙ ap (λ h. h.bytes) c.cut-chunk.ensures.chunk in
    let just = subst (λ (a : ℕ). HasJust chunk.part.words a (n.bytes / 8)) at (subst (λ (b : ℕ). HasJust chunk.part.words chunk.at (b / 8)) bytes chunk.just) in
    let known = c.self.invariant.stored.chunks key n was in
    let next = follows names.cells now.cells key (Some n) (d.steps ∙ ap (λ o. changed names.cells key o) was) in
    let words = ap (λ o. o.words) c.lay.ensures.both ∙ ap (λ m. union m chunk.part.words) cut in
    storing names now store c.lay.new.store c.in-Done.ensures.same c.self.invariant.here (ap (λ o. o.region) c.lay.ensures.both ∙ ap (λ o. o.region) c.cut-chunk.ensures.rest)
    (subst (λ m. IsStored m now.cells) (sym words)
    (put_stored store.words chunk.part.words names.cells now.cells key (Some n) was n c.self.invariant.stored next apart just known.valid known.whole))

pub returns-clause-outcome : goal.returns-clause-outcome
returns-clause-outcome g c =
    let d = c.in-Done.ensures.outcome in
    let names = c.self.inside.names in
    let now = c.try_call_with_hash.new.self in
    let store = c.self.inside.store in
    let key = c.args.key.now in
    let n = c.in-Some.name in
    let chunk = c.work-answer.new.chunk in
    let was : fin.get names.cells key ≡ Some n = sym d.replied ∙ c.in-Some.is in
    let cut = ap (λ o. o.words) c.cut-chunk.ensures.rest in
    let apart = subst (λ m. Disjoint m chunk.part.words) cut c.lay.ensures.apart in
    let at : chunk.at ≡ n.at = c.work-answer.ensures.place.0 ∙ ap (λ h. h.at) c.cut-chunk.ensures.chunk in
    let bytes : chunk.bytes ≡ n.bytes = c.work-answer.ensures.place.1 ∙ ap (λ h. h.bytes) c.cut-chunk.ensures.chunk in
    let just = subst (λ (a : ℕ). HasJust chunk.part.words a (n.bytes / 8)) at (subst (λ (b : ℕ). HasJust chunk.part.words chunk.at (b / 8)) bytes chunk.just) in
    let next = follows names.cells now.cells key (Some n) (d.steps ∙ ap (λ o. changed names.cells key o) was) in
    let words = ap (λ o. o.words) c.lay.ensures.both ∙ ap (λ m. union m chunk.part.words) cut in
    let keep = put_keeps store.words chunk.part.words names.cells key (Some n) was c.self.invariant.stored apart in
    let after = put_held store.words chunk.part.words names.cells now.cells key (Some n) was n c.self.invariant.stored next apart just
    ∙ (held_named n chunk (sym at) (sym bytes) ∙ worked_held g.W.ChunkObject.worked c.args.call.now n store.words c.cut-chunk.result chunk c.cut-chunk.ensures.chunk c.work-answer.ensures.place.0 c.work-answer.ensures.place.1 c.work-answer.ensures.words) in
    let reply = c.work-answer.ensures.reply ∙ ap (λ h. (g.W.ChunkObject.worked h.words c.args.call.now).1) c.cut-chunk.ensures.chunk in
    subst (λ (w : PartitionView Held). IsDone (stepped g.W.ChunkObject.worked) w.size w.cells key (With c.args.call.now) false (Did (Some c.work-answer.result)) false false (shown c.lay.new.store.words now.cells)) c.self.view_is
    (subst (λ m. IsDone (stepped g.W.ChunkObject.worked) names.size (shown store.words names.cells) key (With c.args.call.now) false (Did (Some c.work-answer.result)) false false (shown m now.cells)) (sym words)
    (with_done g.W.ChunkObject.worked store.words (union (without store.words (Some n)) chunk.part.words) names.cells now.cells key names.size c.args.call.now n c.in-Done.reply c.work-answer.result (is_some c.in-Done.unused) (is_some c.in-Done.freed) d c.in-Some.is (keep_others _ _ _ _ keep) after reply))

pub returns-clause-roomy : goal.returns-clause-roomy
returns-clause-roomy g c = subst (λ (n : ℕ). IsRoomy c.try_call_with_hash.new.self.size n) (sym (len-shown c.lay.new.store.words c.try_call_with_hash.new.self.cells)) c.in-Done.ensures.roomy

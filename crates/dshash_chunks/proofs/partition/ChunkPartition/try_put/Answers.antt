use Rattle.std.proofs.Common.{◌≡◌, ◌/◌, ◌%◌, ◌<◌, ℕ, false, Some, is_some, option_map, sym, ap, subst, ◌∙◌}
use Rattle.word_map.specs.WordMap.{HasJust, union, Disjoint}
use Rattle.dshash_core.specs.Cells.{IsRoomy, PartitionView}
use Rattle.dshash_core.specs.Outcome.{IsDone, IsNeedItem, IsTooFull}
use Rattle.dshash_chunks.specs.declared.held.Held.{Held}
use Rattle.dshash_chunks.specs.declared.held.ChunkCalls.TheVariants.{Put}
use Rattle.dshash_chunks.specs.declared.held.ChunkReplies.TheVariants.{Was}
use Rattle.dshash_chunks.specs.Held.{held_in, stepped}
use Rattle.dshash_chunks.specs.Stored.{IsStored, shown, without}
use Rattle.dshash_chunks.proofs.Shown.{follows, len-shown}
use Rattle.dshash_chunks.proofs.Frames.{held_named, keep_others, put_held, put_keeps, put_stored, storing}
use Rattle.dshash_chunks.proofs.Done.{need_put, full_put, put_done}
use Rattle.dshash_chunks.proofs.partition.ChunkPartition.try_put.Goals as goal

pub invariant_of-self : goal.invariant_of-self
invariant_of-self g c =
    let d = c.in-Done.ensures.outcome in
    let names = c.self.inside.names in
    let now = c.try_call_with_hash.new.self in
    let store = c.self.inside.store in
    let key = c.args.key.now in
    let cut = ap (λ o. o.words) c.cut_if-before.ensures.rest in
    let n = c.of.result in
    let apart = subst (λ m. Disjoint m c.args.chunk.part.words) cut c.lay.ensures.apart in
    let just = subst (λ (a : ℕ). HasJust c.args.chunk.part.words a (n.bytes / 8)) (sym c.of.ensures.0) (subst (λ (b : ℕ). HasJust c.args.chunk.part.words c.args.chunk.at (b / 8)) (sym c.of.ensures.1) c.args.chunk.just) in
    let valid = subst (λ (a : ℕ). 0 < a) (sym c.of.ensures.0) c.args.chunk.valid in
    let whole : n.bytes % 8 ≡ 0 = ap (λ (b : ℕ). b % 8) c.of.ensures.1 ∙ c.args.chunk.whole in
    let words = ap (λ o. o.words) c.lay.ensures.both ∙ ap (λ m. union m c.args.chunk.part.words) cut in
    storing names now store c.lay.new.store c.in-Done.ensures.same c.self.invariant.here (ap (λ o. o.region) c.lay.ensures.both ∙ ap (λ o. o.region) c.cut_if-before.ensures.rest)
    (subst (λ m. IsStored m now.cells) (sym words)
    (put_stored store.words c.args.chunk.part.words names.cells now.cells key c.in-Done.reply (sym d.replied) n c.self.invariant.stored (follows names.cells now.cells key (Some n) d.steps) apart just valid whole))

pub returns-in-Done-clause-outcome : goal.returns-in-Done-clause-outcome
returns-in-Done-clause-outcome g c =
    let d = c.in-Done.ensures.outcome in
    let names = c.self.inside.names in
    let now = c.try_call_with_hash.new.self in
    let store = c.self.inside.store in
    let key = c.args.key.now in
    let cut = ap (λ o. o.words) c.cut_if-before.ensures.rest in
    let n = c.of.result in
    let chunk = c.args.chunk in
    let apart = subst (λ m. Disjoint m chunk.part.words) cut c.lay.ensures.apart in
    let just = subst (λ (a : ℕ). HasJust chunk.part.words a (n.bytes / 8)) (sym c.of.ensures.0) (subst (λ (b : ℕ). HasJust chunk.part.words chunk.at (b / 8)) (sym c.of.ensures.1) chunk.just) in
    let words = ap (λ o. o.words) c.lay.ensures.both ∙ ap (λ m. union m chunk.part.words) cut in
    let keep = put_keeps store.words chunk.part.words names.cells key c.in-Done.reply (sym d.replied) c.self.invariant.stored apart in
    let comes = put_held store.words chunk.part.words names.cells now.cells key c.in-Done.reply (sym d.replied) n c.self.invariant.stored (follows names.cells now.cells key (Some n) d.steps) apart just ∙ held_named n chunk c.of.ensures.0 c.of.ensures.1 in
    subst (λ (w : PartitionView Held). IsDone (stepped g.W.ChunkObject.worked) w.size w.cells key (Put (held_in chunk)) (is_some c.args.spare) (Was (option_map held_in c.cut_if-before.result)) (is_some c.in-Done.unused) false (shown c.lay.new.store.words now.cells)) c.self.view_is
    (subst (λ m. IsDone (stepped g.W.ChunkObject.worked) names.size (shown store.words names.cells) key (Put (held_in chunk)) (is_some c.args.spare) (Was (option_map held_in c.cut_if-before.result)) (is_some c.in-Done.unused) false (shown m now.cells)) (sym words)
    (put_done g.W.ChunkObject.worked store.words (union (without store.words c.in-Done.reply) chunk.part.words) names.cells now.cells key names.size n (held_in chunk) (is_some c.args.spare) c.in-Done.reply c.cut_if-before.result (is_some c.in-Done.unused) (is_some c.in-Done.freed) d (keep_others _ _ _ _ keep) comes c.cut_if-before.ensures.chunk))

pub returns-in-Done-clause-roomy : goal.returns-in-Done-clause-roomy
returns-in-Done-clause-roomy g c = subst (λ (n : ℕ). IsRoomy c.try_call_with_hash.new.self.size n) (sym (len-shown c.lay.new.store.words c.try_call_with_hash.new.self.cells)) c.in-Done.ensures.roomy

pub returns-in-NeedItem-clause-outcome : goal.returns-in-NeedItem-clause-outcome
returns-in-NeedItem-clause-outcome g c =
    let names = c.self.inside.names in
    let now = c.try_call_with_hash.new.self in
    let store = c.self.inside.store in
    let new = held_in c.args.chunk in
    subst (λ (w : PartitionView Held). IsNeedItem (stepped g.W.ChunkObject.worked) w.size w.cells c.args.key.now (Put new) (is_some c.args.spare) (shown store.words now.cells)) c.self.view_is
    (need_put g.W.ChunkObject.worked store.words store.words names.cells now.cells c.args.key.now names.size c.of.result new (is_some c.args.spare) c.in-NeedItem.ensures.outcome)

pub returns-in-NeedItem-clause-roomy : goal.returns-in-NeedItem-clause-roomy
returns-in-NeedItem-clause-roomy g c = subst (λ (n : ℕ). IsRoomy c.try_call_with_hash.new.self.size n) (sym (len-shown c.self.inside.store.words c.try_call_with_hash.new.self.cells)) c.in-NeedItem.ensures.roomy

pub returns-clause-outcome : goal.returns-clause-outcome
returns-clause-outcome g c =
    let names = c.self.inside.names in
    let now = c.try_call_with_hash.new.self in
    let store = c.self.inside.store in
    let new = held_in c.args.chunk in
    subst (λ (w : PartitionView Held). IsTooFull (stepped g.W.ChunkObject.worked) w.size w.cells c.args.key.now (Put new) (is_some c.args.spare) c.in-TooFull.size (is_some c.in-TooFull.spare) (shown store.words now.cells)) c.self.view_is
    (full_put g.W.ChunkObject.worked store.words store.words names.cells now.cells c.args.key.now names.size c.of.result new (is_some c.args.spare) c.in-TooFull.size (is_some c.in-TooFull.spare) c.in-TooFull.ensures.outcome)

pub returns-clause-roomy : goal.returns-clause-roomy
returns-clause-roomy g c = subst (λ (n : ℕ). IsRoomy c.try_call_with_hash.new.self.size n) (sym (len-shown c.self.inside.store.words c.try_call_with_hash.new.self.cells)) c.in-TooFull.ensures.roomy

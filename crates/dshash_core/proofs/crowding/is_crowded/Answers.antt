use Rattle.std.proofs.Common.{◌≡◌, ℕ, ◌<◌, true, false, length, ap, sym, subst, ◌∙◌}
use Rattle.dshash_core.specs.Hung.{Hung, HasItem, HasNoItem}
use Rattle.dshash_core.specs.Cells.{bucket_of}
use Rattle.dshash_core.proofs.Steps.{bucket_in}
use Rattle.dshash_core.proofs.Crowds.{crowded_as, key_there, short_chain}
use Rattle.dshash_core.proofs.crowding.is_crowded.Goals as goal

pub returns-then-not-is_long-clause-crowded : goal.returns-then-not-is_long-clause-crowded
returns-then-not-is_long-clause-crowded g c =
    let h = c.args.buckets.now in
    let inside : c.bucket_of_hash-bucket.result < length h.chains = subst (λ (n : ℕ). n < length h.chains) (sym c.bucket_of_hash-bucket.ensures) (bucket_in _ _ _ _ c.requires.cells c.args.hash) in (
      λ t. cc,
      λ crowded. absurd (short_chain g.O.CellObject.stepped g.O.CellObject.decoded c.args.size c.args.count g.O.CellObject.VALUE_WORDS h c.requires.cells c.bucket_of_hash-bucket.result inside
          c.args.key.now c.args.call.now c.args.longest (c.bucket_of_hash-bucket.ensures ∙ ap (bucket_of c.args.size) c.requires.hash)
          (λ long. let t : true ≡ false = sym (c.is_long.ensures.long.1 long) ∙ c.if-not-is_long.true in cc) crowded),
    )

pub returns-in-Some-clause-crowded : goal.returns-in-Some-clause-crowded
returns-in-Some-clause-crowded g c =
    let h = c.args.buckets.now in
    let inside : c.bucket_of_hash-bucket.result < length h.chains = subst (λ (n : ℕ). n < length h.chains) (sym c.bucket_of_hash-bucket.ensures) (bucket_in _ _ _ _ c.requires.cells c.args.hash) in
    let found = subst (λ (u : Hung). HasItem u c.bucket_of_hash-bucket.result c.in-Some.field-0.link c.in-Some.field-0.item c.args.key.now) c.is_long.ensures.same c.in-Some.ensures.found in (
      λ t. cc,
      λ crowded. absurd (key_there g.O.CellObject.stepped g.O.CellObject.decoded c.args.size c.args.count g.O.CellObject.VALUE_WORDS h c.requires.cells c.bucket_of_hash-bucket.result inside
          c.args.key.now c.args.call.now c.args.longest (c.bucket_of_hash-bucket.ensures ∙ ap (bucket_of c.args.size) c.requires.hash)
          c.in-Some.field-0.link c.in-Some.field-0.item found crowded),
    )

pub returns-in-None-clause-crowded : goal.returns-in-None-clause-crowded
returns-in-None-clause-crowded g c =
    let h = c.args.buckets.now in
    let inside : c.bucket_of_hash-bucket.result < length h.chains = subst (λ (n : ℕ). n < length h.chains) (sym c.bucket_of_hash-bucket.ensures) (bucket_in _ _ _ _ c.requires.cells c.args.hash) in
    crowded_as g.O.CellObject.stepped g.O.CellObject.decoded c.args.size c.args.count g.O.CellObject.VALUE_WORDS h c.requires.cells c.bucket_of_hash-bucket.result inside
    c.args.key.now c.args.call.now c.args.longest (c.bucket_of_hash-bucket.ensures ∙ ap (bucket_of c.args.size) c.requires.hash)
    (subst (λ (u : Hung). HasNoItem u c.bucket_of_hash-bucket.result c.args.key.now) c.is_long.ensures.same c.in-None.ensures.found)
    c.may_insert.result c.may_insert.ensures (c.is_long.ensures.long.0 c.if-not-is_long.false)

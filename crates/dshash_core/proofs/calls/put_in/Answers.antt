use Rattle.std.proofs.Common.{◌≡◌, ℕ, ◌+◌, ◌/◌, ◌≤◌, ◌∷◌, Option, IfSome, is_some, length, ap, sym, subst, ◌∙◌, refl}
use Rattle.region_words.specs.declared.chunk.Chunk.{Chunk}
use Rattle.dshash_core.specs.Hung.{with_chain, chain_of}
use Rattle.dshash_core.specs.Cells.{bucket_of}
use Rattle.dshash_core.proofs.Steps.{bucket_in, passed, inserted, needs_item, too_full}
use Rattle.dshash_core.proofs.calls.put_in.Goals as goal

pub returns-in-None-clause-answered : goal.returns-in-None-clause-answered
returns-in-None-clause-answered g c =
    passed g.O.CellObject.stepped g.O.CellObject.decoded c.args.size c.args.count.now g.O.CellObject.VALUE_WORDS c.args.buckets.now c.requires.cells
    (bucket_of c.args.size c.args.hash) (bucket_in _ _ _ _ c.requires.cells c.args.hash) c.args.key.now c.args.call.now (is_some c.args.spare)
    (ap (bucket_of c.args.size) c.requires.hash) c.requires.absent c.first_step-next.result.0 c.first_step-next.result.1 c.first_step-next.ensures c.in-None.is

pub returns-then-is_full_at-clause-answered : goal.returns-then-is_full_at-clause-answered
returns-then-is_full_at-clause-answered g c = (
  refl,
  refl,
  too_full g.O.CellObject.stepped g.O.CellObject.decoded c.args.size c.args.count.now g.O.CellObject.VALUE_WORDS c.args.buckets.now c.requires.cells
      (bucket_of c.args.size c.args.hash) (bucket_in _ _ _ _ c.requires.cells c.args.hash) c.args.key.now c.args.call.now (is_some c.args.spare)
      (ap (bucket_of c.args.size) c.requires.hash) c.requires.absent c.first_step-next.result.0 c.first_step-next.result.1 c.first_step-next.ensures c.in-Some.state c.in-Some.is
      (sym c.is_full_at.ensures ∙ c.if-is_full_at.true),
)

pub insert-requires-clause-room : goal.insert-requires-clause-room
insert-requires-clause-room g c =
    let spare = subst (λ (o : Option Chunk). IfSome o (λ k. (k.part.region ≡ c.args.r.now) × (k.bytes ≡ c.args.buckets.now.layout.item_bytes))) c.in-Some-spare.is c.requires.spare in
    let bytes : c.in-Some-spare.item.bytes ≡ c.args.buckets.now.layout.item_bytes = spare.1 in
    subst (λ (n : ℕ). 2 + length c.args.key.now + g.O.CellObject.VALUE_WORDS ≤ n / 8) (sym bytes)
    (subst (λ (n : ℕ). 2 + n + g.O.CellObject.VALUE_WORDS ≤ c.args.buckets.now.layout.item_bytes / 8) (sym c.requires.key)
    (subst (λ (n : ℕ). 2 + c.args.buckets.now.layout.key_words + n ≤ c.args.buckets.now.layout.item_bytes / 8) c.requires.cells.values c.is_sound.ensures.fits))

pub returns-in-Some-spare-clause-answered : goal.returns-in-Some-spare-clause-answered
returns-in-Some-spare-clause-answered g c =
    let i = bucket_of c.args.size c.args.hash in
    let made = c.insert.ensures in
    inserted g.O.CellObject.stepped g.O.CellObject.decoded c.args.size c.args.count.now g.O.CellObject.VALUE_WORDS c.args.buckets.now c.requires.cells
    i (bucket_in _ _ _ _ c.requires.cells c.args.hash) c.args.key.now c.args.call.now (is_some c.args.spare)
    (ap (bucket_of c.args.size) c.requires.hash) c.requires.absent c.first_step-next.result.0 c.first_step-next.result.1 c.first_step-next.ensures
    c.insert.new.buckets c.in-Some.state made.0 c.in-Some.is made.1 made.2 (ap (λ (o : Option Chunk). is_some o) c.in-Some-spare.is)
    (sym c.is_full_at.ensures ∙ c.if-is_full_at.false)
    (subst (λ (j : ℕ). c.insert.new.buckets ≡ with_chain c.args.buckets.now j (made.0 ∷ chain_of c.args.buckets.now j)) c.bucket_of_hash-bucket.ensures made.3)

pub returns-in-None-spare-clause-answered : goal.returns-in-None-spare-clause-answered
returns-in-None-spare-clause-answered g c = (
  refl,
  refl,
  needs_item g.O.CellObject.stepped g.O.CellObject.decoded c.args.size c.args.count.now g.O.CellObject.VALUE_WORDS c.args.buckets.now c.requires.cells
      (bucket_of c.args.size c.args.hash) (bucket_in _ _ _ _ c.requires.cells c.args.hash) c.args.key.now c.args.call.now (is_some c.args.spare)
      (ap (bucket_of c.args.size) c.requires.hash) c.requires.absent c.first_step-next.result.0 c.first_step-next.result.1 c.first_step-next.ensures c.in-Some.state c.in-Some.is
      (ap (λ (o : Option Chunk). is_some o) c.in-None-spare.is)
      (sym c.is_full_at.ensures ∙ c.if-is_full_at.false),
)

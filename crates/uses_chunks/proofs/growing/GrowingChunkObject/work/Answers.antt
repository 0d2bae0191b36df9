use Rattle.std.proofs.Common.{ℕ, ◌+◌, ◌/◌, ◌%◌, ◌^◌, ◌<◌, refl, ap, ◌∙◌, arith}
use Rattle.std.specs.FinMap as fin
use Rattle.dshash_core.specs.Chains.{word, words_at}
use Rattle.uses_chunks.proofs.Grows.{grows}
use Rattle.uses_chunks.proofs.growing.GrowingChunkObject.work.Goals as goal

pub returns-clause-words : goal.returns-clause-words
returns-clause-words c =
    let old = c.args.chunk.now in
    let x = c.load-before.result in
    let y : ℕ = (x + c.args.call.now) % 2 ^ 64 in
    let some : 0 < old.bytes / 8 = omega (arith, c.if-chunk-lt8.false) in
    let place = c.store.ensures.place.0 ∙ c.load-before.ensures.place.0 in
    let bytes = c.store.ensures.place.1 ∙ c.load-before.ensures.place.1 in
    let words = ap (λ o. o.words) c.store.ensures.part ∙ (λ i. fin.insert (c.load-before.ensures.part i).words (c.load-before.ensures.place.0 i + 0) y) in
    (λ i. words_at (word (words i)) (place i) (bytes i / 8)) ∙ grows old.part.words old.at (old.bytes / 8) c.args.call.now x y some c.load-before.ensures.found refl

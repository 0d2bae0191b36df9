use Rattle.std.proofs.Common.{◌/◌, ◌<◌, ap, ◌∙◌, arith}
use Rattle.dshash_core.specs.Chains.{word, words_at}
use Rattle.uses_chunks.proofs.Numbered.{numbered}
use Rattle.uses_chunks.proofs.keeping.numbered.Goals as goal

pub returns-clause-words : goal.returns-clause-words
returns-clause-words c =
    let old = c.args.chunk in
    let some : 0 < old.bytes / 8 = omega (arith, c.requires.some) in
    let place = c.store.ensures.place.0 in
    let bytes = c.store.ensures.place.1 in
    let words = ap (λ o. o.words) c.store.ensures.part in
    let found = numbered old.part.words old.at (old.bytes / 8) c.args.number some in
    (found.0, (λ i. words_at (word (words i)) (place i) (bytes i / 8)) ∙ found.1)

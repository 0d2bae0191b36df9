use Rattle.std.proofs.Common.{◌/◌, ℕ, sym, ap, ◌∙◌, arith}
use Rattle.atomic_table.specs.Seated.{TableId}
use Rattle.word_map.specs.WordMap.{WordMap, range_of, rest_of, union}
use Rattle.word_map.proofs.Maps.{range-union, rest-union, within_true}
use Rattle.region_words.specs.Parts.{Owned, owned}
use Rattle.region_words.proofs.Same.{one_chunk}
use Rattle.span_pools.proofs.RecordStores.{union_has}
use Rattle.span_pools.proofs.objects.hand_back.Goals as goal

pub split_chunk-requires-clause-valid : goal.split_chunk-requires-clause-valid
split_chunk-requires-clause-valid c = omega (arith, c.word.ensures, c.args.object.valid)

pub split_chunk-requires-clause-owns : goal.split_chunk-requires-clause-owns
split_chunk-requires-clause-owns c = λ k lo hi. rw c.join.ensures.both
    (union_has c.args.words.now.words c.args.object.part.words c.args.object.at (c.args.object.bytes / 8) k c.args.object.just (within_true c.args.object.at (c.args.object.bytes / 8) k (omega (arith, lo, c.word.ensures)) (omega (arith, hi, c.word.ensures))))

pub returns-clause-same : goal.returns-clause-same
returns-clause-same c =
    let w = c.args.words.now in
    let x = c.args.object in
    c.split_chunk.ensures.rest
    ∙ ap (λ (o : Owned). owned o.region (rest_of o.words c.word.result (x.bytes / 8))) c.join.ensures.both
    ∙ ap (λ (z : ℕ). owned w.region (rest_of (union w.words x.part.words) z (x.bytes / 8))) c.word.ensures
    ∙ ap (λ (m : WordMap). owned w.region m) (rest-union w.words x.part.words x.at (x.bytes / 8) c.join.ensures.apart x.just)

pub returns-clause-back : goal.returns-clause-back
returns-clause-back c =
    let w = c.args.words.now in
    let x = c.args.object in
    one_chunk c.split_chunk.result x (c.split_chunk.ensures.place.0 ∙ c.word.ensures) (omega (arith, c.split_chunk.ensures.place.1, x.whole)) (
    c.split_chunk.ensures.words
    ∙ ap (λ (o : Owned). owned o.region (range_of o.words c.word.result (x.bytes / 8))) c.join.ensures.both
    ∙ ap (λ (z : ℕ). owned w.region (range_of (union w.words x.part.words) z (x.bytes / 8))) c.word.ensures
    ∙ ap (λ (m : WordMap). owned w.region m) (range-union w.words x.part.words x.at (x.bytes / 8) x.just)
    ∙ ap (λ (t : TableId). owned t x.part.words) (c.requires.here.0 ∙ sym c.requires.here.1)
    )

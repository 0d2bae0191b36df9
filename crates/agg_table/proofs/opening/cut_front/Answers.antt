use Rattle.std.proofs.Common.{◌≡◌, ◌≤◌, ◌+◌, ◌*◌, ◌/◌, ℕ, IsSome, sym, subst, arith}
use Rattle.word_map.specs.WordMap.{at as word_at}
use Rattle.word_map.proofs.Maps.{just_has}
use Rattle.word_map.proofs.Uses.{rest-has_behind}
use Rattle.region_words.specs.Parts.{Owned}
use Rattle.free_pages.specs.Area.{area_size}
use Rattle.agg_table.proofs.opening.cut_front.Goals as goal

-- the words of the chunk
long : (bytes words : ℕ) → bytes ≡ 8 * (128 + words) → bytes / 8 ≡ 128 + words
long bytes words e = omega arith

pub cut_slices-requires-clause-valid : goal.cut_slices-requires-clause-valid
cut_slices-requires-clause-valid c = omega (arith, c.word-front.ensures, c.args.chunk.valid)

pub cut_slices-requires-clause-owns : goal.cut_slices-requires-clause-owns
cut_slices-requires-clause-owns c = λ k lo hi.
    let words = long c.args.chunk.bytes (area_size c.args.pages) c.requires.size in
    just_has c.args.chunk.part.words c.args.chunk.at (c.args.chunk.bytes / 8) k c.args.chunk.just (omega (arith, lo, c.word-front.ensures)) (omega (arith, hi, c.word-front.ensures, words))

pub overflow_add-front : goal.overflow_add-front
overflow_add-front c =
    let low : c.args.chunk.at + c.args.chunk.bytes / 8 ≤ 67108864 = c.is_small.ensures.low (omega (arith, c.requires.size)) in
    omega (arith, low, c.word-front.ensures, c.from.ensures)

pub split_chunk-rest-requires-clause-valid : goal.split_chunk-rest-requires-clause-valid
split_chunk-rest-requires-clause-valid c = omega (arith, c.from.ensures)

pub split_chunk-rest-requires-clause-owns : goal.split_chunk-rest-requires-clause-owns
split_chunk-rest-requires-clause-owns c = λ k lo hi.
    let words = long c.args.chunk.bytes (area_size c.args.pages) c.requires.size in
    let behind : c.word-front.result + 128 ≤ k = omega (arith, lo, c.from.ensures) in
    subst (λ (o : Owned). IsSome (word_at o.words k)) (sym c.in_ok-slices.ensures.rest)
    (rest-has_behind c.args.chunk.part.words c.word-front.result 128 k behind
    (just_has c.args.chunk.part.words c.args.chunk.at (c.args.chunk.bytes / 8) k c.args.chunk.just (omega (arith, behind, c.word-front.ensures)) (omega (arith, hi, c.word-front.ensures, c.from.ensures, c.area_words.ensures, words))))

use Rattle.std.proofs.Common.{◌≡◌, ℕ, ◌+◌, ◌-◌, ◌*◌, ◌/◌, ◌≤◌, sym, ap, subst, arith}
use Rattle.word_map.specs.WordMap.{HasJust}
use Rattle.word_map.proofs.Uses.{range-there, rest-has_behind}
use Rattle.free_pages.specs.Area.{control_words, front, head_words, page_words}
use Rattle.free_pages.specs.PagesView.{PagesView}
use Rattle.dsa_area.proofs.Openings.{chunk_owns}
use Rattle.c_area.proofs.Pools.{all_empty}
use Rattle.c_area.proofs.opening.lay_out.Goals as goal

pub overflow_add-first : goal.overflow_add-first
overflow_add-first c =
    let low : c.args.chunk.at + c.args.chunk.bytes / 8 ≤ 67108864 = c.is_small.ensures.low (omega (arith, c.requires.size)) in
    omega (arith, c.word-base.ensures, c.requires.size)

pub overflow_add-first-2 : goal.overflow_add-first-2
overflow_add-first-2 c =
    let low : c.args.chunk.at + c.args.chunk.bytes / 8 ≤ 67108864 = c.is_small.ensures.low (omega (arith, c.requires.size)) in
    omega (arith, c.word-base.ensures, c.from-count.ensures, c.front.ensures, c.requires.size)

pub empty_pools-requires-clause-place : goal.empty_pools-requires-clause-place
empty_pools-requires-clause-place c =
    let low : c.args.chunk.at + c.args.chunk.bytes / 8 ≤ 67108864 = c.is_small.ensures.low (omega (arith, c.requires.size)) in
    (omega (arith, c.word-base.ensures, c.from-count.ensures, c.front.ensures), omega (arith, c.word-base.ensures, c.from-count.ensures, c.front.ensures, c.requires.size))

pub empty_pools-requires-clause-owns : goal.empty_pools-requires-clause-owns
empty_pools-requires-clause-owns c = λ k lo hi.
    rw c.split-control.ensures.rest (rest-has_behind c.args.chunk.part.words _ _ k (omega (arith, c.word-base.ensures, c.from-count.ensures, c.front.ensures, c.control_words.ensures))
    (chunk_owns c.args.chunk.part.words c.args.chunk.at c.args.chunk.bytes c.args.pages c.args.chunk.just c.requires.size k (omega (arith, c.word-base.ensures, c.from-count.ensures, c.front.ensures)) (omega (arith, c.word-base.ensures, c.from-count.ensures, c.front.ensures))))

pub new-pages-requires-clause-place : goal.new-pages-requires-clause-place
new-pages-requires-clause-place c =
    let low : c.args.chunk.at + c.args.chunk.bytes / 8 ≤ 67108864 = c.is_small.ensures.low (omega (arith, c.requires.size)) in
    (omega (arith, c.of.ensures, c.word-base.ensures, c.from-count.ensures, c.front.ensures), omega (arith, c.of.ensures, c.word-base.ensures, c.from-count.ensures, c.front.ensures, c.requires.size))

pub new-pages-requires-clause-words : goal.new-pages-requires-clause-words
new-pages-requires-clause-words c =
    let just : HasJust c.split-words.result.words (c.word-base.result + head_words + c.front.result) (page_words * c.from-count.result) = rw c.split-words.ensures.range (range-there c.empty_pools.new.bits.words _ _ (λ k lo hi. c.in_ok-pools.ensures.rest k lo (omega (arith, c.from-count.ensures)))) in
    subst (λ (z : ℕ × ℕ). HasJust c.split-words.result.words z.0 (page_words * z.1)) (λ i. (sym c.of.ensures i, c.from-count.ensures i)) just

pub new-pages-requires-clause-control : goal.new-pages-requires-clause-control
new-pages-requires-clause-control c =
    let just : HasJust c.split-control.result.words c.word-base.result (head_words + c.control_words.result) = rw c.split-control.ensures.range (range-there c.args.chunk.part.words _ _ (λ k lo hi.
    chunk_owns c.args.chunk.part.words c.args.chunk.at c.args.chunk.bytes c.args.pages c.args.chunk.just c.requires.size k (omega (arith, c.word-base.ensures)) (omega (arith, c.word-base.ensures, c.control_words.ensures, c.from-count.ensures)))) in
    let start : c.word-base.result ≡ c.of.result - front c.args.pages - head_words = omega (arith, c.of.ensures, c.word-base.ensures, c.from-count.ensures, c.front.ensures) in
    let long : c.control_words.result ≡ control_words c.args.pages = omega (arith, c.control_words.ensures, c.from-count.ensures) in
    subst (λ (z : ℕ × ℕ). HasJust c.split-control.result.words z.0 (head_words + z.1)) (λ i. (start i, long i)) just

pub returns-clause-opens : goal.returns-clause-opens
returns-clause-opens c = record { pages_are = ap (λ (b : PagesView). b.state) c.new-pages.ensures; pools_are = λ class. all_empty c.in_ok-pools.pools.items c.in_ok-pools.ensures.empty (class - 2) }

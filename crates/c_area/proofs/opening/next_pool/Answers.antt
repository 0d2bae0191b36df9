use Rattle.std.proofs.Common.{◌≡◌, ℕ, ◌-◌, ◌*◌, sym, ap, subst, ◌∙◌, arith}
use Rattle.word_map.specs.WordMap.{HasJust}
use Rattle.word_map.proofs.Uses.{range-there, rest-has_behind}
use Rattle.free_pages.specs.Area.{mark_words, marks_at}
use Rattle.span_pools.proofs.Fits.{bits_before}
use Rattle.dsa_area.proofs.Openings.{next_bits}
use Rattle.c_area.proofs.opening.next_pool.Goals as goal

pub new-requires-clause-marks : goal.new-requires-clause-marks
new-requires-clause-marks c =
    let len : c.mark_words-len.result ≡ mark_words c.args.pages = c.mark_words-len.ensures ∙ ap mark_words c.from.ensures in
    let start : c.args.first - (38 - c.from-2.result) * c.mark_words-len.result ≡ marks_at c.args.first c.args.pages c.args.class = ap (λ (z : ℕ × ℕ). c.args.first - (38 - z.0) * z.1) (λ i. (c.from-2.ensures i, len i)) in
    let b = (bits_before c.args.class (mark_words c.args.pages) c.requires.class).1 in
    let just : HasJust c.split-marks.result.words (c.args.first - (38 - c.from-2.result) * c.mark_words-len.result) c.mark_words-len.result = rw c.split-marks.ensures.range (range-there c.args.bits.now.words _ _ (λ k lo hi. c.requires.owns k (omega arith) (omega arith))) in
    subst (λ (z : ℕ × ℕ). HasJust c.split-marks.result.words z.0 z.1) (λ i. ((start ∙ ap (λ (z : ℕ). marks_at z c.args.pages c.args.class) (sym c.of.ensures)) i, len i)) just

pub returns-clause-rest : goal.returns-clause-rest
returns-clause-rest c = λ k lo hi.
    let len : c.mark_words-len.result ≡ mark_words c.args.pages = c.mark_words-len.ensures ∙ ap mark_words c.from.ensures in
    let start : c.args.first - (38 - c.from-2.result) * c.mark_words-len.result ≡ marks_at c.args.first c.args.pages c.args.class = ap (λ (z : ℕ × ℕ). c.args.first - (38 - z.0) * z.1) (λ i. (c.from-2.ensures i, len i)) in
    let next = next_bits c.args.first c.args.pages c.args.class c.requires.class c.requires.place.0 in
    rw c.split-marks.ensures.rest (rest-has_behind c.args.bits.now.words _ _ k (omega arith) (c.requires.owns k (omega arith) hi))

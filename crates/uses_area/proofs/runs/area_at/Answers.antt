use Rattle.std.proofs.Common.{◌≡◌, ℕ, ◌+◌, ◌-◌, ◌*◌, arith, sym, subst, ◌∙◌}
use Rattle.word_map.specs.WordMap.{HasJust}
use Rattle.free_pages.specs.Area.{control_words, front, head_words, page_words}
use Rattle.free_pages.proofs.AreaWords.{cut_just, cut_behind, cut_owns}
use Rattle.uses_area.proofs.runs.area_at.Goals as goal

pub split-words-requires-clause-owns : goal.split-words-requires-clause-owns
split-words-requires-clause-owns c = λ k a b. rw c.split-control.ensures.rest (cut_owns _ _ _ k (omega (arith, c.front.ensures, c.control_words.ensures)) (c.requires.owns k (omega (arith, c.from-count.ensures, c.front.ensures)) (omega (arith, c.from-count.ensures, c.front.ensures))))

pub new-requires-clause-words : goal.new-requires-clause-words
new-requires-clause-words c =
    let first : c.args.base + head_words + c.front.result ≡ c.of.result = sym c.of.ensures in
    let just : HasJust c.split-words.result.words (c.args.base + head_words + c.front.result) (page_words * c.from-count.result) = rw c.split-words.ensures.range (cut_just c.split-control.new.self.words _ _
    (λ k a b. rw c.split-control.ensures.rest (cut_owns _ _ _ k (omega (arith, c.front.ensures, c.control_words.ensures)) (c.requires.owns k (omega (arith, c.from-count.ensures, c.front.ensures)) (omega (arith, c.from-count.ensures, c.front.ensures)))))) in
    subst (λ (z : ℕ). HasJust c.split-words.result.words z (page_words * c.args.pages)) first
    (subst (λ (z : ℕ). HasJust c.split-words.result.words (c.args.base + head_words + c.front.result) (page_words * z)) c.from-count.ensures just)

pub new-requires-clause-control : goal.new-requires-clause-control
new-requires-clause-control c =
    let just : HasJust c.split-control.result.words c.args.base (head_words + c.control_words.result) = rw c.split-control.ensures.range (cut_just c.args.part.now.words _ _ (λ k a b. c.requires.owns k a (omega (arith, c.from-count.ensures, c.control_words.ensures)))) in
    let base : c.args.base ≡ c.of.result - front c.args.pages - head_words = omega (arith, c.of.ensures, c.from-count.ensures, c.front.ensures) in
    let len : head_words + c.control_words.result ≡ head_words + control_words c.args.pages = omega (arith, c.from-count.ensures, c.control_words.ensures) in
    subst (λ (z : ℕ). HasJust c.split-control.result.words z (head_words + control_words c.args.pages)) base
    (subst (λ (z : ℕ). HasJust c.split-control.result.words c.args.base z) len just)

pub returns-clause-rest : goal.returns-clause-rest
returns-clause-rest c = λ k h. rw (c.split-words.ensures.rest, c.split-control.ensures.rest)
    (cut_behind _ _ _ k (omega (arith, c.from-count.ensures, c.front.ensures)) ∙ cut_behind _ _ _ k (omega (arith, c.from-count.ensures, c.front.ensures, c.control_words.ensures)))

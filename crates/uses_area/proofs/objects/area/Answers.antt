use Rattle.std.proofs.Common.{◌≡◌, ℕ, ◌+◌, ◌-◌, ◌*◌, ◌≤◌, ◌<◌, arith, sym, ap, subst, ◌∙◌}
use Rattle.word_map.specs.WordMap.{HasJust}
use Rattle.free_pages.specs.Area.{class_count, class_end, control_words, front, head_words, mark_words, page_words}
use Rattle.free_pages.proofs.AreaWords.{cut_just, cut_owns}
use Rattle.span_pools.proofs.Fits.{bits_before}
use Rattle.uses_area.proofs.Fronts.{cut_front}
use Rattle.uses_area.proofs.objects.area.Goals as goal

start_same : (f g i k m n : ℕ) → f ≡ g → i ≡ k → m ≡ n → f - (class_end - i) * m ≡ g - (class_end - k) * n
start_same f g i k m n a b d = cc

below : (f p d m k : ℕ) → f ≡ p + class_count * m → d ≤ class_count * m → m ≤ d → k < head_words + f - d + m → k < head_words + f
below f p d m k e h i j = omega arith

above : (f p d m k : ℕ) → f ≡ p + class_count * m → d ≤ class_count * m → head_words + f - d ≤ k → head_words + p ≤ k
above f p d m k e h i = omega arith

-- a class's bits stand behind the control records and in front of page 0
bits_between : (f p c i m k : ℕ) → f ≡ p + class_count * m → i ≡ c → ((class_end - c) * m ≤ class_count * m) × (m ≤ (class_end - c) * m)
    → head_words + f - (class_end - i) * m ≤ k → k < head_words + f - (class_end - i) * m + m → (head_words + p ≤ k) × (k < head_words + f)
bits_between f p c i m k e same h a b =
    let x : ((class_end - i) * m ≤ class_count * m) × (m ≤ (class_end - i) * m) = subst (λ (z : ℕ). ((class_end - z) * m ≤ class_count * m) × (m ≤ (class_end - z) * m)) (sym same) h in
    (above f p ((class_end - i) * m) m k e x.0 a, below f p ((class_end - i) * m) m k e x.0 x.1 b)

pub split-words-requires-clause-owns : goal.split-words-requires-clause-owns
split-words-requires-clause-owns c = λ k a b. rw c.split-control.ensures.rest (cut_owns _ _ _ k (omega (arith, c.front-first.ensures, c.control_words.ensures)) (c.requires.owns k (omega (arith, c.from-count.ensures, c.front-first.ensures))))

pub split-marks-requires-clause-owns : goal.split-marks-requires-clause-owns
split-marks-requires-clause-owns c = λ k a b.
    let size : c.front-first.result ≡ control_words c.from-count.result + class_count * c.mark_words-size.result = c.front-first.ensures ∙ ap (λ (z : ℕ). control_words c.from-count.result + class_count * z) (sym c.mark_words-size.ensures) in
    let between = bits_between c.front-first.result (control_words c.from-count.result) c.args.class c.from.result c.mark_words-size.result k size c.from.ensures (bits_before c.args.class c.mark_words-size.result c.requires.class) a b in
    rw c.split-words.ensures.rest (cut_front _ _ _ k between.1 (rw c.split-control.ensures.rest (cut_owns _ _ _ k (omega (arith, between.0, c.control_words.ensures)) (c.requires.owns k (omega (arith, between.1, c.from-count.ensures, c.front-first.ensures))))))

pub new-requires-clause-words : goal.new-requires-clause-words
new-requires-clause-words c =
    let just : HasJust c.split-words.result.words (head_words + c.front-first.result) (page_words * c.from-count.result) = rw c.split-words.ensures.range (cut_just c.split-control.new.self.words _ _
    (λ k a b. rw c.split-control.ensures.rest (cut_owns _ _ _ k (omega (arith, c.front-first.ensures, c.control_words.ensures)) (c.requires.owns k (omega (arith, c.from-count.ensures, c.front-first.ensures)))))) in
    subst (λ (z : ℕ). HasJust c.split-words.result.words z (page_words * c.args.pages)) (sym c.of.ensures)
    (subst (λ (z : ℕ). HasJust c.split-words.result.words (head_words + c.front-first.result) (page_words * z)) c.from-count.ensures just)

pub new-requires-clause-control : goal.new-requires-clause-control
new-requires-clause-control c =
    let just : HasJust c.split-control.result.words 0 (head_words + c.control_words.result) = rw c.split-control.ensures.range (cut_just c.args.part.words _ _ (λ k a b. c.requires.owns k (omega (arith, c.from-count.ensures, c.control_words.ensures)))) in
    let start : 0 ≡ c.of.result - front c.args.pages - head_words = omega (arith, c.of.ensures, c.from-count.ensures, c.front-first.ensures) in
    let len : head_words + c.control_words.result ≡ head_words + control_words c.args.pages = omega (arith, c.from-count.ensures, c.control_words.ensures) in
    subst (λ (z : ℕ). HasJust c.split-control.result.words z (head_words + control_words c.args.pages)) start
    (subst (λ (z : ℕ). HasJust c.split-control.result.words 0 z) len just)

pub new-requires-2-clause-marks : goal.new-requires-2-clause-marks
new-requires-2-clause-marks c =
    let start = head_words + c.front-first.result - (class_end - c.from.result) * c.mark_words-size.result in
    let size : c.front-first.result ≡ control_words c.from-count.result + class_count * c.mark_words-size.result = c.front-first.ensures ∙ ap (λ (z : ℕ). control_words c.from-count.result + class_count * z) (sym c.mark_words-size.ensures) in
    let len : c.mark_words-size.result ≡ mark_words c.args.pages = c.mark_words-size.ensures ∙ ap mark_words c.from-count.ensures in
    let just : HasJust c.split-marks.result.words start c.mark_words-size.result = rw c.split-marks.ensures.range (cut_just c.split-words.new.self.words _ _ (λ k a b.
    let between = bits_between c.front-first.result (control_words c.from-count.result) c.args.class c.from.result c.mark_words-size.result k size c.from.ensures (bits_before c.args.class c.mark_words-size.result c.requires.class) a b in
    rw c.split-words.ensures.rest (cut_front _ _ _ k between.1 (rw c.split-control.ensures.rest (cut_owns _ _ _ k (omega (arith, between.0, c.control_words.ensures)) (c.requires.owns k (omega (arith, between.1, c.from-count.ensures, c.front-first.ensures)))))))) in
    subst (λ (z : ℕ). HasJust c.split-marks.result.words z (mark_words c.args.pages)) (start_same (head_words + c.front-first.result) c.of-2.result c.from.result c.args.class c.mark_words-size.result (mark_words c.args.pages) (sym c.of-2.ensures) c.from.ensures len)
    (subst (λ (z : ℕ). HasJust c.split-marks.result.words start z) len just)

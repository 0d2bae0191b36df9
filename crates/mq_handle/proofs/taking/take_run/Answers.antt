use Rattle.std.proofs.Common.{◌≡◌, ◌+◌, ◌<◌, ◌≤◌, ℕ, suc, ⊎_elim, ap, subst, sym, refl, ◌∙◌, arith, length, length-append}
use Rattle.rel_pointer.specs.Bytes.{word_count}
use Rattle.ring_rule.specs.Ring.{Ring, Receiving}
use Rattle.mq_ring.specs.Ends.{ReceivingEnd}
use Rattle.mq_handle.specs.Taking.{InHand, before_of}
use Rattle.mq_handle.proofs.Hands.{hand_more, hand_run, hand_low, has_run, ready_run}
use Rattle.mq_handle.proofs.taking.take_run.Goals as goal

pub returns-then-taken-eq0-clause-hand : goal.returns-then-taken-eq0-clause-hand
returns-then-taken-eq0-clause-hand c =
    let base = before_of c.args.rx.now.end c.args.taken.words in
    let end = ap (λ (o : ReceivingEnd). o.end) c.take-len.ensures.end in
    let one : c.args.taken.words + 1 ≡ 1 = omega (arith, c.if-taken-eq0.true) in
    let hand : InHand c.args.rx.now.end.ring.max base c.take-len.new.self.end.taken c.args.buffer.now (c.args.taken.words + 1) c.take-len.result =
    hand_more _ _ _ _ _ _ _ _ c.take-len.result _ c.requires.hand c.requires.unfinished (ap (λ (q : Receiving). q.taken) end) c.take-len.ensures.framed (λ z. (refl, refl)) (λ some. absurd (omega (arith, c.if-taken-eq0.true))) in
    subst (λ (q : Receiving). InHand q.ring.max base c.take-len.new.self.end.taken c.args.buffer.now 1 c.take-len.result) (sym end)
    (subst (λ (n : ℕ). InHand c.args.rx.now.end.ring.max base c.take-len.new.self.end.taken c.args.buffer.now n c.take-len.result) one hand)

pub returns-clause-hand : goal.returns-clause-hand
returns-clause-hand c =
    let max = c.args.rx.now.end.ring.max in
    let base = before_of c.args.rx.now.end c.args.taken.words in
    let t = c.take_words.ensures.taken in
    let h = has_run c.args.rx.now c.take_words.new.self t.0 t.2 in
    let some : 0 < c.args.taken.words = omega (arith, c.if-taken-eq0.false) in
    let unfinished : c.args.taken.words < suc (word_count c.args.taken.len) = ⊎_elim (λ (z : c.args.taken.words ≡ 0). absurd (omega arith)) (λ (z : c.args.taken.words < suc (word_count c.args.taken.len)). z) c.requires.unfinished in
    let more : 0 < c.min-run.result = omega (arith, c.min-run.ensures, c.words_of.ensures, unfinished, c.requires.some) in
    let low : c.args.taken.words + c.min-run.result ≤ suc (word_count c.args.taken.len) = omega (arith, c.min-run.ensures, c.words_of.ensures, unfinished) in
    let room : c.args.taken.len ≤ length c.args.buffer.now = let l = hand_low max base _ _ _ _ c.requires.hand some in omega (arith, l.1, c.requires.room) in
    subst (λ (r : Ring). InHand r.max base c.take_words.new.self.end.taken c.take_words.new.out (c.args.taken.words + c.min-run.result) c.args.taken.len) (sym h.ring)
    (hand_run max c.args.taken.len _ c.min-run.result base _ _ _ _ t.0 c.args.taken.words c.requires.hand some refl t.1 low room h.taken (c.take_words.ensures.framed more) t.3)

pub returns-clause-takes : goal.returns-clause-takes
returns-clause-takes c =
    let t = c.take_words.ensures.taken in
    let h = has_run c.args.rx.now c.take_words.new.self t.0 t.2 in
    record { ring = h.ring; gone = h.gone; returned = h.returned; turn = omega (arith, h.turn); grows = (t.0, h.taken); flag = λ e. h.flag ∙ e }

pub returns-clause-steps : goal.returns-clause-steps
returns-clause-steps c =
    let t = c.take_words.ensures.taken in
    let h = has_run c.args.rx.now c.take_words.new.self t.0 t.2 in
    omega (arith, h.turn, ap length h.taken, length-append c.args.rx.now.end.taken t.0)

pub returns-clause-words : goal.returns-clause-words
returns-clause-words c =
    let t = c.take_words.ensures.taken in
    let h = has_run c.args.rx.now c.take_words.new.self t.0 t.2 in
    omega (arith, t.1, ap length h.taken, length-append c.args.rx.now.end.taken t.0)

pub returns-clause-looks : goal.returns-clause-looks
returns-clause-looks c =
    let t = c.take_words.ensures.taken in
    let h = has_run c.args.rx.now c.take_words.new.self t.0 t.2 in
    (h.looked, h.avail)

pub returns-clause-counted : goal.returns-clause-counted
returns-clause-counted c =
    let t = c.take_words.ensures.taken in
    let h = has_run c.args.rx.now c.take_words.new.self t.0 t.2 in
    ready_run c.args.rx.now.end c.take_words.new.self.end _ _ c.min-run.result t.0 c.requires.counted (omega (arith, c.min-run.ensures)) t.1 h

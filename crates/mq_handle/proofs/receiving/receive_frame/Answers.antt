use Rattle.std.proofs.Common.{◌≡◌, ℕ, ◌+◌, ◌*◌, ◌≤◌, Option, take, length, Some, ◌∙◌, sym, ap, subst, arith}
use Rattle.rel_pointer.specs.Bytes.{word_count}
use Rattle.ring_rule.specs.Ring.{Ring, Receiving}
use Rattle.mq_ring.specs.Ends.{ReceivingEnd}
use Rattle.mq_handle.specs.declared.answers.ReceiveAnswer.{ReceiveAnswer}
use Rattle.mq_handle.specs.Receives.{IsReceived}
use Rattle.mq_handle.specs.Looking.{Finds}
use Rattle.mq_handle.specs.Taking.{InHand, before_of}
use Rattle.mq_handle.specs.declared.answers.ReceiveAnswer.TheVariants.{Message, WouldBlock, Detached}
use Rattle.mq_handle.specs.ReceiveAnswers.{HasPlace, steps_beside}
use Rattle.mq_handle.proofs.Hands.{Grows, hand_low}
use Rattle.mq_handle.proofs.SendTries.{chosen_true, chosen_false}
use Rattle.mq_handle.proofs.Receipts.{came, same_whole, gives_on, received_is, few_by, few_words, finds_same, finds_ring, hand_same, place_by, some_words, steps_whole}
use Rattle.mq_handle.proofs.receiving.receive_frame.Goals as goal

pub returns-in-Some-clause-answer : goal.returns-in-Some-clause-answer
returns-in-Some-clause-answer c =
    let more = chosen_false _ _ c.loop-whole.whole c.loop-whole-test.true c.loop-whole.invariant.whole in
    let before : InHand c.loop-whole.rx.end.ring.max (before_of c.args.rx.now.end c.args.taken.words) c.args.rx.now.end.taken c.args.buffer.now c.args.taken.words c.args.taken.len =
    subst (λ (r : Ring). InHand r.max (before_of c.args.rx.now.end c.args.taken.words) c.args.rx.now.end.taken c.args.buffer.now c.args.taken.words c.args.taken.len) (sym c.loop-whole.invariant.takes.ring) c.requires.hand in
    let same = same_whole _ _ _ _ _ _ _ _ _ _ before c.requires.unfinished c.loop-whole.invariant.hand more.0 in
    let found : Finds c.loop-whole.rx.end c.look_for_words-answer.new.rx.end c.look_for_words-answer.result.0.ready (Some c.in-Some.answer) =
    subst (λ (a : Option ReceiveAnswer). Finds c.loop-whole.rx.end c.look_for_words-answer.new.rx.end c.look_for_words-answer.result.0.ready a) c.in-Some.is c.look_for_words-answer.ensures.found in
    gives_on c.args.rx.now.end c.loop-whole.rx.end c.look_for_words-answer.new.rx.end c.look_for_words-answer.result.0.ready c.look_for_words-answer.result.0.len c.loop-whole.buffer c.in-Some.answer c.loop-whole.invariant.takes.turn same found

pub returns-clause-hand : goal.returns-clause-hand
returns-clause-hand c =
    let full = chosen_true _ _ c.loop-whole.whole c.loop-whole-test.false c.loop-whole.invariant.whole in
    let before : InHand c.loop-whole.rx.end.ring.max (before_of c.args.rx.now.end c.args.taken.words) c.args.rx.now.end.taken c.args.buffer.now c.args.taken.words c.args.taken.len =
    subst (λ (r : Ring). InHand r.max (before_of c.args.rx.now.end c.args.taken.words) c.args.rx.now.end.taken c.args.buffer.now c.args.taken.words c.args.taken.len) (sym c.loop-whole.invariant.takes.ring) c.requires.hand in
    let room = c.loop-whole.auto.buffer ∙ c.take_words-done.auto.buffer ∙ c.requires.room ∙ sym (ap (λ (r : Ring). r.max) c.loop-whole.invariant.takes.ring) in
    let m = came _ _ _ _ _ _ _ _ _ _ before c.requires.unfinished c.loop-whole.invariant.hand full room in
    let last : c.finish_taking.new.rx.end ≡ record c.loop-whole.rx.end { returned = c.finish_taking.new.rx.end.returned; turn = c.finish_taking.new.rx.end.turn } = ap (λ (o : ReceivingEnd). o.end) c.finish_taking.ensures.kept in
    subst (λ (q : Receiving). InHand q.ring.max (before_of q c.finish_taking.result.words) q.taken c.loop-whole.buffer c.finish_taking.result.words c.finish_taking.result.len) (sym last)
    (subst (λ (w : ℕ). InHand c.loop-whole.rx.end.ring.max (before_of c.loop-whole.rx.end w) c.loop-whole.rx.end.taken c.loop-whole.buffer w c.finish_taking.result.len) (sym c.finish_taking.ensures.next.0)
    (subst (λ (l : ℕ). InHand c.loop-whole.rx.end.ring.max (before_of c.loop-whole.rx.end 0) c.loop-whole.rx.end.taken c.loop-whole.buffer 0 l) (sym c.finish_taking.ensures.next.1) m.hand))

pub returns-clause-answer : goal.returns-clause-answer
returns-clause-answer c =
    let full = chosen_true _ _ c.loop-whole.whole c.loop-whole-test.false c.loop-whole.invariant.whole in
    let before : InHand c.loop-whole.rx.end.ring.max (before_of c.args.rx.now.end c.args.taken.words) c.args.rx.now.end.taken c.args.buffer.now c.args.taken.words c.args.taken.len =
    subst (λ (r : Ring). InHand r.max (before_of c.args.rx.now.end c.args.taken.words) c.args.rx.now.end.taken c.args.buffer.now c.args.taken.words c.args.taken.len) (sym c.loop-whole.invariant.takes.ring) c.requires.hand in
    let room = c.loop-whole.auto.buffer ∙ c.take_words-done.auto.buffer ∙ c.requires.room ∙ sym (ap (λ (r : Ring). r.max) c.loop-whole.invariant.takes.ring) in
    let m = came _ _ _ _ _ _ _ _ _ _ before c.requires.unfinished c.loop-whole.invariant.hand full room in
    let last : c.finish_taking.new.rx.end ≡ record c.loop-whole.rx.end { returned = c.finish_taking.new.rx.end.returned; turn = c.finish_taking.new.rx.end.turn } = ap (λ (o : ReceivingEnd). o.end) c.finish_taking.ensures.kept in
    subst (λ (q : Receiving). IsReceived c.args.rx.now.end q (take c.finish_taking.result.len c.loop-whole.buffer)) (sym last)
    (subst (λ (l : ℕ). IsReceived c.args.rx.now.end (record c.loop-whole.rx.end { returned = c.finish_taking.new.rx.end.returned; turn = c.finish_taking.new.rx.end.turn }) (take l c.loop-whole.buffer)) (sym c.finish_taking.ensures.next.1)
    (received_is c.args.rx.now.end c.loop-whole.rx.end c.loop-whole.buffer c.loop-whole.taken.len c.finish_taking.new.rx.end.returned c.finish_taking.new.rx.end.turn c.loop-whole.invariant.takes m c.finish_taking.ensures.returned))

pub returns-clause-place : goal.returns-clause-place
returns-clause-place c =
    let full = chosen_true _ _ c.loop-whole.whole c.loop-whole-test.false c.loop-whole.invariant.whole in
    let low = hand_low _ _ _ _ _ _ c.loop-whole.invariant.hand (some_words c.loop-whole.taken.words (word_count c.loop-whole.taken.len) full) in
    place_by c.loop-whole.taken.len c.finish_taking.result.len c.loop-whole.rx.end.ring.max (length c.loop-whole.buffer) c.finish_taking.ensures.next.1 low.1
    (c.loop-whole.auto.buffer ∙ c.take_words-done.auto.buffer ∙ c.requires.room ∙ sym (ap (λ (r : Ring). r.max) c.loop-whole.invariant.takes.ring))

-- any other answer asks for no place
none_asked : (answer : ReceiveAnswer) (old new : Receiving) (ready len room : ℕ) → Finds old new ready (Some answer) → HasPlace answer len room
none_asked Message old new ready len room f = absurd f
none_asked WouldBlock old new ready len room f = tt
none_asked Detached old new ready len room f = tt

pub returns-in-Some-clause-place : goal.returns-in-Some-clause-place
returns-in-Some-clause-place c =
    let found : Finds c.loop-whole.rx.end c.look_for_words-answer.new.rx.end c.look_for_words-answer.result.0.ready (Some c.in-Some.answer) =
    subst (λ (a : Option ReceiveAnswer). Finds c.loop-whole.rx.end c.look_for_words-answer.new.rx.end c.look_for_words-answer.result.0.ready a) c.in-Some.is c.look_for_words-answer.ensures.found in
    none_asked c.in-Some.answer c.loop-whole.rx.end c.look_for_words-answer.new.rx.end c.look_for_words-answer.result.0.ready c.look_for_words-answer.result.0.len (length c.loop-whole.buffer) found

pub returns-clause-few : goal.returns-clause-few
returns-clause-few c =
    let before : InHand c.loop-whole.rx.end.ring.max (before_of c.args.rx.now.end c.args.taken.words) c.args.rx.now.end.taken c.args.buffer.now c.args.taken.words c.args.taken.len =
    subst (λ (r : Ring). InHand r.max (before_of c.args.rx.now.end c.args.taken.words) c.args.rx.now.end.taken c.args.buffer.now c.args.taken.words c.args.taken.len) (sym c.loop-whole.invariant.takes.ring) c.requires.hand in
    let few = few_words _ _ _ _ _ _ _ _ _ _ before c.loop-whole.invariant.hand in
    few_by (length c.finish_taking.new.rx.end.taken) (length c.loop-whole.rx.end.taken) (length c.args.rx.now.end.taken) (word_count c.loop-whole.rx.end.ring.max) (word_count c.args.rx.now.end.ring.max)
    (ap (λ (o : ReceivingEnd). length o.end.taken) c.finish_taking.ensures.kept) (ap (λ (r : Ring). word_count r.max) c.loop-whole.invariant.takes.ring) few

pub returns-in-Some-clause-few : goal.returns-in-Some-clause-few
returns-in-Some-clause-few c =
    let before : InHand c.loop-whole.rx.end.ring.max (before_of c.args.rx.now.end c.args.taken.words) c.args.rx.now.end.taken c.args.buffer.now c.args.taken.words c.args.taken.len =
    subst (λ (r : Ring). InHand r.max (before_of c.args.rx.now.end c.args.taken.words) c.args.rx.now.end.taken c.args.buffer.now c.args.taken.words c.args.taken.len) (sym c.loop-whole.invariant.takes.ring) c.requires.hand in
    let few = few_words _ _ _ _ _ _ _ _ _ _ before c.loop-whole.invariant.hand in
    let found : Finds c.loop-whole.rx.end c.look_for_words-answer.new.rx.end c.look_for_words-answer.result.0.ready (Some c.in-Some.answer) =
    subst (λ (a : Option ReceiveAnswer). Finds c.loop-whole.rx.end c.look_for_words-answer.new.rx.end c.look_for_words-answer.result.0.ready a) c.in-Some.is c.look_for_words-answer.ensures.found in
    few_by (length c.look_for_words-answer.new.rx.end.taken) (length c.loop-whole.rx.end.taken) (length c.args.rx.now.end.taken) (word_count c.loop-whole.rx.end.ring.max) (word_count c.args.rx.now.end.ring.max)
    (ap length (finds_same c.loop-whole.rx.end c.look_for_words-answer.new.rx.end c.look_for_words-answer.result.0.ready c.in-Some.answer found)) (ap (λ (r : Ring). word_count r.max) c.loop-whole.invariant.takes.ring) few

pub returns-clause-grows : goal.returns-clause-grows
returns-clause-grows c = subst (Grows c.args.rx.now.end.taken) (sym (ap (λ (o : ReceivingEnd). o.end.taken) c.finish_taking.ensures.kept)) c.loop-whole.invariant.takes.grows

pub returns-in-Some-clause-grows : goal.returns-in-Some-clause-grows
returns-in-Some-clause-grows c =
    let found : Finds c.loop-whole.rx.end c.look_for_words-answer.new.rx.end c.look_for_words-answer.result.0.ready (Some c.in-Some.answer) =
    subst (λ (a : Option ReceiveAnswer). Finds c.loop-whole.rx.end c.look_for_words-answer.new.rx.end c.look_for_words-answer.result.0.ready a) c.in-Some.is c.look_for_words-answer.ensures.found in
    subst (Grows c.args.rx.now.end.taken) (sym (finds_same c.loop-whole.rx.end c.look_for_words-answer.new.rx.end c.look_for_words-answer.result.0.ready c.in-Some.answer found)) c.loop-whole.invariant.takes.grows

-- the steps of a look that finds no word
steps_none : (answer : ReceiveAnswer) (old new : Receiving) (ready first turn : ℕ) → Finds old new ready (Some answer) → old.turn + 4 * first ≤ turn + 4 * length old.taken
    → new.turn + 4 * first ≤ turn + 4 * length new.taken + steps_beside answer
steps_none Message old new ready first turn f s = absurd f
steps_none WouldBlock old new ready first turn f s = omega (arith, s, f.0.steps, ap length f.0.taken)
steps_none Detached old new ready first turn f s = omega (arith, s, f.0.steps, ap length f.0.taken)

pub returns-in-Some-clause-steps : goal.returns-in-Some-clause-steps
returns-in-Some-clause-steps c =
    let found : Finds c.loop-whole.rx.end c.look_for_words-answer.new.rx.end c.look_for_words-answer.result.0.ready (Some c.in-Some.answer) =
    subst (λ (a : Option ReceiveAnswer). Finds c.loop-whole.rx.end c.look_for_words-answer.new.rx.end c.look_for_words-answer.result.0.ready a) c.in-Some.is c.look_for_words-answer.ensures.found in
    steps_none c.in-Some.answer c.loop-whole.rx.end c.look_for_words-answer.new.rx.end c.look_for_words-answer.result.0.ready (length c.args.rx.now.end.taken) c.args.rx.now.end.turn found c.loop-whole.invariant.steps

pub returns-clause-steps : goal.returns-clause-steps
returns-clause-steps c =
    steps_whole c.loop-whole.rx.end.turn c.finish_taking.new.rx.end.turn (length c.args.rx.now.end.taken) (length c.loop-whole.rx.end.taken) (length c.finish_taking.new.rx.end.taken) c.args.rx.now.end.turn
    c.loop-whole.invariant.steps c.finish_taking.ensures.few (ap (λ (o : ReceivingEnd). length o.end.taken) c.finish_taking.ensures.kept)

pub returns-in-Some-clause-hand : goal.returns-in-Some-clause-hand
returns-in-Some-clause-hand c =
    let found : Finds c.loop-whole.rx.end c.look_for_words-answer.new.rx.end c.look_for_words-answer.result.0.ready (Some c.in-Some.answer) =
    subst (λ (a : Option ReceiveAnswer). Finds c.loop-whole.rx.end c.look_for_words-answer.new.rx.end c.look_for_words-answer.result.0.ready a) c.in-Some.is c.look_for_words-answer.ensures.found in
    hand_same c.loop-whole.rx.end c.look_for_words-answer.new.rx.end _ _ _ _ _ _
    (finds_ring c.loop-whole.rx.end c.look_for_words-answer.new.rx.end c.look_for_words-answer.result.0.ready c.in-Some.answer found)
    (finds_same c.loop-whole.rx.end c.look_for_words-answer.new.rx.end c.look_for_words-answer.result.0.ready c.in-Some.answer found)
    c.look_for_words-answer.ensures.same.0 c.look_for_words-answer.ensures.same.1 c.loop-whole.invariant.hand

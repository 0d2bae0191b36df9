use Rattle.std.proofs.Common.{ℕ, List, ap, length, subst, sym, ◌∙◌}
use Rattle.ring_rule.specs.Ring.{Receiving, Ring}
use Rattle.mq_ring.specs.Ends.{ReceivingEnd}
use Rattle.mq_handle.specs.ReceiveAnswers.{Gives, message_of}
use Rattle.mq_handle.specs.Receives.{Incoming}
use Rattle.mq_handle.proofs.Receipts.{kept_by, received_by, shown_by}
use Rattle.mq_handle.proofs.receiver.Receiver.try_receive.Goals as goal

pub returns-clause-kept : goal.returns-clause-kept
returns-clause-kept c =
    let kept = c.receive_frame-answer.ensures.kept in
    kept_by _ _ _ _ _ _ (ap (λ (o : ReceivingEnd). o.region) kept ∙ ap (λ (q : Incoming). q.region) c.self.view_is) (ap (λ (o : ReceivingEnd). o.told) kept ∙ ap (λ (q : Incoming). q.told) c.self.view_is)

pub returns-clause-answer : goal.returns-clause-answer
returns-clause-answer c =
    let e = c.receive_frame-answer.ensures in
    let now = c.receive_frame-answer.new.buffer in
    let answer = c.receive_frame-answer.result.1 in
    let len = c.receive_frame-answer.result.0.len in
    let after = c.receive_frame-answer.new.rx.end in
    let size = c.as_mut_slice-buffer.ensures.len in
    subst (λ (bytes : List ℕ). Gives c.args.self.now.end after bytes answer)
    (sym (shown_by answer c.eq-self-inside.result c.self.inside.buffer.len len now c.self.inside.buffer.items c.eq-self-inside.ensures
    (c.receive_frame-answer.auto.buffer ∙ size) (sym (ap (λ (bytes : List ℕ). length bytes) c.as_mut_slice-buffer.ensures.value) ∙ size)))
    (subst (λ (q : Receiving). Gives q after (message_of answer now len) answer) (ap (λ (q : Incoming). q.end) c.self.view_is) e.answer)

pub invariant_of-self : goal.invariant_of-self
invariant_of-self c =
    let e = c.receive_frame-answer.ensures in
    let size = c.as_mut_slice-buffer.ensures.len in
    let new = c.receive_frame-answer.auto.buffer ∙ size in
    let was = sym (ap (λ (bytes : List ℕ). length bytes) c.as_mut_slice-buffer.ensures.value) ∙ size in
    received_by c.receive_frame-answer.new.rx.end c.receive_frame-answer.result.1 c.eq-self-inside.result c.self.inside.gone c.self.inside.buffer.len c.receive_frame-answer.result.0.words c.receive_frame-answer.result.0.len
    c.receive_frame-answer.result.0.ready c.receive_frame-answer.result.0.unreturned c.receive_frame-answer.new.buffer c.self.inside.buffer.items
    e.counted e.hand e.unfinished e.place c.eq-self-inside.ensures new was
    (new ∙ sym was ∙ c.self.invariant.room ∙ sym (ap (λ (r : Ring). r.max) e.ring))
    (c.self.invariant.gone_is ∙ ap (λ (q : Incoming). q.end.gone) c.self.view_is ∙ c.requires.stays ∙ sym e.stays)

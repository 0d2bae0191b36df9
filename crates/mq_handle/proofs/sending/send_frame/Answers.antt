use Rattle.std.proofs.Common.{◌≡◌, ℕ, true, false, ◌++◌, length, take, refl, sym, ap, subst, ◌∙◌, arith}
use Rattle.ring_rule.specs.Frames.{frame, IsFramed, IsMessage}
use Rattle.ring_rule.specs.Ring.{Sending}
use Rattle.ring_rule.specs.Ends.{sender_sees_flag}
use Rattle.mq_ring.specs.Ends.{SendingEnd}
use Rattle.mq_handle.specs.Held.{InFrames}
use Rattle.mq_handle.specs.Filling.{base_of, Fills, FillsUp, finishes}
use Rattle.mq_handle.specs.Sends.{IsSent, StaysOpen}
use Rattle.mq_handle.proofs.SendTries.{begun, all_there, part_there, blocked_is, sent_is, opens, finished_ring, finished_put, finished_opens, in_frames, chosen_true, chosen_false}
use Rattle.mq_handle.proofs.Filling.{changed, filled_up}
use Rattle.mq_handle.proofs.sending.send_frame.Goals as goal

-- a flag that was not found set was not set before
unset : false ≡ true → ⊥
unset e = cc

pub store_words-done-requires-clause-stored : goal.store_words-done-requires-clause-stored
store_words-done-requires-clause-stored c =
    let mine : IsMessage c.args.tx.now.end.ring.max c.args.message.now = record { bytes = c.len-length.ensures.bytes; short = omega (arith, c.if-length-from.false, c.from.ensures, c.max.ensures, c.len-length.ensures.count) } in
    (begun c.args.tx.now.end c.args.counts.words c.args.message.now c.requires.framed c.requires.continues mine).low

pub store_words-done-requires-clause-begins : goal.store_words-done-requires-clause-begins
store_words-done-requires-clause-begins c =
    let mine : IsMessage c.args.tx.now.end.ring.max c.args.message.now = record { bytes = c.len-length.ensures.bytes; short = omega (arith, c.if-length-from.false, c.from.ensures, c.max.ensures, c.len-length.ensures.count) } in
    let b = begun c.args.tx.now.end c.args.counts.words c.args.message.now c.requires.framed c.requires.continues mine in
    subst (λ (o : SendingEnd). o.end.put ≡ base_of o.end c.args.counts.words ++ take c.args.counts.words (frame c.args.message.now)) (sym c.if-look_flag.ensures.end) b.begins

pub store_words-done-requires-clause-framed : goal.store_words-done-requires-clause-framed
store_words-done-requires-clause-framed c =
    let mine : IsMessage c.args.tx.now.end.ring.max c.args.message.now = record { bytes = c.len-length.ensures.bytes; short = omega (arith, c.if-length-from.false, c.from.ensures, c.max.ensures, c.len-length.ensures.count) } in
    let b = begun c.args.tx.now.end c.args.counts.words c.args.message.now c.requires.framed c.requires.continues mine in
    subst (λ (o : SendingEnd). IsFramed o.end.ring.max (base_of o.end c.args.counts.words ++ frame c.args.message.now)) (sym c.if-look_flag.ensures.end) b.framed

pub returns-then-not-done-clause-answer : goal.returns-then-not-done-clause-answer
returns-then-not-done-clause-answer c =
    let mine : IsMessage c.args.tx.now.end.ring.max c.args.message.now = record { bytes = c.len-length.ensures.bytes; short = omega (arith, c.if-length-from.false, c.from.ensures, c.max.ensures, c.len-length.ensures.count) } in
    let b = begun c.args.tx.now.end c.args.counts.words c.args.message.now c.requires.framed c.requires.continues mine in
    let end : c.look_flag.new.self.end ≡ sender_sees_flag c.args.tx.now.end 0 = ap (λ (o : SendingEnd). o.end) c.if-look_flag.ensures.end in
    let all = chosen_false _ _ c.store_words-done.result.1 c.if-not-done.true c.store_words-done.ensures.all in
    let steps = chosen_false _ _ c.store_words-done.result.1 c.if-not-done.true c.store_words-done.ensures.steps in
    let put = c.store_words-done.ensures.put ∙ ap (λ (s : Sending). base_of s c.args.counts.words ++ take c.store_words-done.result.0.words (frame c.args.message.now)) end in
    let up = subst (λ (s : Sending). FillsUp (length (base_of s c.args.counts.words ++ frame c.args.message.now)) s c.store_words-done.new.tx.end) end steps in
    blocked_is c.args.tx.now.end c.store_words-done.new.tx.end c.args.counts.words c.store_words-done.result.0.words _ c.args.message.now b up put all

pub returns-then-not-done-clause-steps : goal.returns-then-not-done-clause-steps
returns-then-not-done-clause-steps c =
    let mine : IsMessage c.args.tx.now.end.ring.max c.args.message.now = record { bytes = c.len-length.ensures.bytes; short = omega (arith, c.if-length-from.false, c.from.ensures, c.max.ensures, c.len-length.ensures.count) } in
    let b = begun c.args.tx.now.end c.args.counts.words c.args.message.now c.requires.framed c.requires.continues mine in
    let end : c.look_flag.new.self.end ≡ sender_sees_flag c.args.tx.now.end 0 = ap (λ (o : SendingEnd). o.end) c.if-look_flag.ensures.end in
    let all = chosen_false _ _ c.store_words-done.result.1 c.if-not-done.true c.store_words-done.ensures.all in
    let steps = chosen_false _ _ c.store_words-done.result.1 c.if-not-done.true c.store_words-done.ensures.steps in
    let put = c.store_words-done.ensures.put ∙ ap (λ (s : Sending). base_of s c.args.counts.words ++ take c.store_words-done.result.0.words (frame c.args.message.now)) end in
    let up = subst (λ (s : Sending). FillsUp (length (base_of s c.args.counts.words ++ frame c.args.message.now)) s c.store_words-done.new.tx.end) end steps in
    subst (λ (n : ℕ). FillsUp n (sender_sees_flag c.args.tx.now.end 0) c.store_words-done.new.tx.end) (sym b.total) up

pub returns-then-not-done-clause-stays : goal.returns-then-not-done-clause-stays
returns-then-not-done-clause-stays c =
    let mine : IsMessage c.args.tx.now.end.ring.max c.args.message.now = record { bytes = c.len-length.ensures.bytes; short = omega (arith, c.if-length-from.false, c.from.ensures, c.max.ensures, c.len-length.ensures.count) } in
    let b = begun c.args.tx.now.end c.args.counts.words c.args.message.now c.requires.framed c.requires.continues mine in
    let end : c.look_flag.new.self.end ≡ sender_sees_flag c.args.tx.now.end 0 = ap (λ (o : SendingEnd). o.end) c.if-look_flag.ensures.end in
    let all = chosen_false _ _ c.store_words-done.result.1 c.if-not-done.true c.store_words-done.ensures.all in
    let steps = chosen_false _ _ c.store_words-done.result.1 c.if-not-done.true c.store_words-done.ensures.steps in
    let put = c.store_words-done.ensures.put ∙ ap (λ (s : Sending). base_of s c.args.counts.words ++ take c.store_words-done.result.0.words (frame c.args.message.now)) end in
    let up = subst (λ (s : Sending). FillsUp (length (base_of s c.args.counts.words ++ frame c.args.message.now)) s c.store_words-done.new.tx.end) end steps in
    opens c.args.tx.now.end c.store_words-done.new.tx.end _ 0 c.requires.stays (λ e. unset (c.if-look_flag.ensures.stays_set e)) (filled_up _ _ _ up).changed_is

pub returns-then-not-done-clause-framed : goal.returns-then-not-done-clause-framed
returns-then-not-done-clause-framed c =
    let mine : IsMessage c.args.tx.now.end.ring.max c.args.message.now = record { bytes = c.len-length.ensures.bytes; short = omega (arith, c.if-length-from.false, c.from.ensures, c.max.ensures, c.len-length.ensures.count) } in
    let b = begun c.args.tx.now.end c.args.counts.words c.args.message.now c.requires.framed c.requires.continues mine in
    let end : c.look_flag.new.self.end ≡ sender_sees_flag c.args.tx.now.end 0 = ap (λ (o : SendingEnd). o.end) c.if-look_flag.ensures.end in
    let all = chosen_false _ _ c.store_words-done.result.1 c.if-not-done.true c.store_words-done.ensures.all in
    let steps = chosen_false _ _ c.store_words-done.result.1 c.if-not-done.true c.store_words-done.ensures.steps in
    let put = c.store_words-done.ensures.put ∙ ap (λ (s : Sending). base_of s c.args.counts.words ++ take c.store_words-done.result.0.words (frame c.args.message.now)) end in
    let up = subst (λ (s : Sending). FillsUp (length (base_of s c.args.counts.words ++ frame c.args.message.now)) s c.store_words-done.new.tx.end) end steps in
    in_frames c.args.tx.now.end c.store_words-done.new.tx.end c.store_words-done.result.0.words _ (filled_up _ _ _ up).changed_is.ring put
    (part_there c.args.tx.now.end c.args.counts.words c.args.message.now _ c.store_words-done.result.0.words b refl all).framed

pub finish_storing-counts-requires-clause-stays : goal.finish_storing-counts-requires-clause-stays
finish_storing-counts-requires-clause-stays c =
    let end : c.look_flag.new.self.end ≡ sender_sees_flag c.args.tx.now.end 0 = ap (λ (o : SendingEnd). o.end) c.if-look_flag.ensures.end in
    let steps = chosen_true _ _ c.store_words-done.result.1 c.if-not-done.false c.store_words-done.ensures.steps in
    (changed _ _ _ steps).gone ∙ ap (λ (s : Sending). s.gone) end ∙ c.requires.stays

pub returns-clause-answer : goal.returns-clause-answer
returns-clause-answer c =
    let mine : IsMessage c.args.tx.now.end.ring.max c.args.message.now = record { bytes = c.len-length.ensures.bytes; short = omega (arith, c.if-length-from.false, c.from.ensures, c.max.ensures, c.len-length.ensures.count) } in
    let b = begun c.args.tx.now.end c.args.counts.words c.args.message.now c.requires.framed c.requires.continues mine in
    let end : c.look_flag.new.self.end ≡ sender_sees_flag c.args.tx.now.end 0 = ap (λ (o : SendingEnd). o.end) c.if-look_flag.ensures.end in
    let all = chosen_true _ _ c.store_words-done.result.1 c.if-not-done.false c.store_words-done.ensures.all in
    let steps = chosen_true _ _ c.store_words-done.result.1 c.if-not-done.false c.store_words-done.ensures.steps in
    let put = c.store_words-done.ensures.put ∙ ap (λ (s : Sending). base_of s c.args.counts.words ++ take c.store_words-done.result.0.words (frame c.args.message.now)) end in
    let fills = subst (λ (s : Sending). Fills (length (base_of s c.args.counts.words ++ frame c.args.message.now)) s c.store_words-done.new.tx.end) end steps in
    let last : c.finish_storing-counts.new.tx.end ≡ finishes c.args.flush c.store_words-done.new.tx.end = ap (λ (o : SendingEnd). o.end) c.finish_storing-counts.ensures.end in
    subst (λ (s : Sending). IsSent c.args.tx.now.end s c.args.message.now c.args.flush) (sym last)
    (sent_is c.args.tx.now.end c.store_words-done.new.tx.end c.args.counts.words c.store_words-done.result.0.words c.args.message.now c.args.flush b fills put all)

pub returns-clause-steps : goal.returns-clause-steps
returns-clause-steps c =
    let mine : IsMessage c.args.tx.now.end.ring.max c.args.message.now = record { bytes = c.len-length.ensures.bytes; short = omega (arith, c.if-length-from.false, c.from.ensures, c.max.ensures, c.len-length.ensures.count) } in
    let b = begun c.args.tx.now.end c.args.counts.words c.args.message.now c.requires.framed c.requires.continues mine in
    let end : c.look_flag.new.self.end ≡ sender_sees_flag c.args.tx.now.end 0 = ap (λ (o : SendingEnd). o.end) c.if-look_flag.ensures.end in
    let all = chosen_true _ _ c.store_words-done.result.1 c.if-not-done.false c.store_words-done.ensures.all in
    let steps = chosen_true _ _ c.store_words-done.result.1 c.if-not-done.false c.store_words-done.ensures.steps in
    let put = c.store_words-done.ensures.put ∙ ap (λ (s : Sending). base_of s c.args.counts.words ++ take c.store_words-done.result.0.words (frame c.args.message.now)) end in
    let fills = subst (λ (s : Sending). Fills (length (base_of s c.args.counts.words ++ frame c.args.message.now)) s c.store_words-done.new.tx.end) end steps in
    let last : c.finish_storing-counts.new.tx.end ≡ finishes c.args.flush c.store_words-done.new.tx.end = ap (λ (o : SendingEnd). o.end) c.finish_storing-counts.ensures.end in
    (c.store_words-done.new.tx.end, subst (λ (n : ℕ). Fills n (sender_sees_flag c.args.tx.now.end 0) c.store_words-done.new.tx.end) (sym b.total) fills, last)

pub returns-clause-stays : goal.returns-clause-stays
returns-clause-stays c =
    let mine : IsMessage c.args.tx.now.end.ring.max c.args.message.now = record { bytes = c.len-length.ensures.bytes; short = omega (arith, c.if-length-from.false, c.from.ensures, c.max.ensures, c.len-length.ensures.count) } in
    let b = begun c.args.tx.now.end c.args.counts.words c.args.message.now c.requires.framed c.requires.continues mine in
    let end : c.look_flag.new.self.end ≡ sender_sees_flag c.args.tx.now.end 0 = ap (λ (o : SendingEnd). o.end) c.if-look_flag.ensures.end in
    let all = chosen_true _ _ c.store_words-done.result.1 c.if-not-done.false c.store_words-done.ensures.all in
    let steps = chosen_true _ _ c.store_words-done.result.1 c.if-not-done.false c.store_words-done.ensures.steps in
    let put = c.store_words-done.ensures.put ∙ ap (λ (s : Sending). base_of s c.args.counts.words ++ take c.store_words-done.result.0.words (frame c.args.message.now)) end in
    let fills = subst (λ (s : Sending). Fills (length (base_of s c.args.counts.words ++ frame c.args.message.now)) s c.store_words-done.new.tx.end) end steps in
    let last : c.finish_storing-counts.new.tx.end ≡ finishes c.args.flush c.store_words-done.new.tx.end = ap (λ (o : SendingEnd). o.end) c.finish_storing-counts.ensures.end in
    subst (StaysOpen c.args.tx.now.end) (sym last)
    (finished_opens c.args.flush c.args.tx.now.end c.store_words-done.new.tx.end (opens c.args.tx.now.end c.store_words-done.new.tx.end _ 0 c.requires.stays (λ e. unset (c.if-look_flag.ensures.stays_set e)) (changed _ _ _ fills)))

pub returns-clause-framed : goal.returns-clause-framed
returns-clause-framed c =
    let mine : IsMessage c.args.tx.now.end.ring.max c.args.message.now = record { bytes = c.len-length.ensures.bytes; short = omega (arith, c.if-length-from.false, c.from.ensures, c.max.ensures, c.len-length.ensures.count) } in
    let b = begun c.args.tx.now.end c.args.counts.words c.args.message.now c.requires.framed c.requires.continues mine in
    let end : c.look_flag.new.self.end ≡ sender_sees_flag c.args.tx.now.end 0 = ap (λ (o : SendingEnd). o.end) c.if-look_flag.ensures.end in
    let all = chosen_true _ _ c.store_words-done.result.1 c.if-not-done.false c.store_words-done.ensures.all in
    let steps = chosen_true _ _ c.store_words-done.result.1 c.if-not-done.false c.store_words-done.ensures.steps in
    let put = c.store_words-done.ensures.put ∙ ap (λ (s : Sending). base_of s c.args.counts.words ++ take c.store_words-done.result.0.words (frame c.args.message.now)) end in
    let fills = subst (λ (s : Sending). Fills (length (base_of s c.args.counts.words ++ frame c.args.message.now)) s c.store_words-done.new.tx.end) end steps in
    let last : c.finish_storing-counts.new.tx.end ≡ finishes c.args.flush c.store_words-done.new.tx.end = ap (λ (o : SendingEnd). o.end) c.finish_storing-counts.ensures.end in
    subst (λ (k : ℕ). InFrames c.finish_storing-counts.new.tx.end.ring.max c.finish_storing-counts.new.tx.end.put k) (sym c.finish_storing-counts.ensures.stored)
    (in_frames c.args.tx.now.end c.finish_storing-counts.new.tx.end 0 _ (ap (λ (s : Sending). s.ring) last ∙ finished_ring c.args.flush c.store_words-done.new.tx.end ∙ (changed _ _ _ fills).ring)
    (ap (λ (s : Sending). s.put) last ∙ finished_put c.args.flush c.store_words-done.new.tx.end ∙ put)
    (all_there c.args.tx.now.end c.args.counts.words c.args.message.now _ c.store_words-done.result.0.words b refl all).framed)

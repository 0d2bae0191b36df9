use Rattle.std.proofs.Common.{◌≡◌, ◌≤◌, ◌-◌, ◌+◌, ℕ, List, [], ◌∷◌, ◌++◌, length, take, drop, sym, ap, subst, ◌∙◌, arith, append_assoc, length-append}
use Rattle.std.specs.List.{fold}
use Rattle.ring_rule.specs.Frames.{frame, IsFramed}
use Rattle.ring_rule.specs.Ring.{Sending}
use Rattle.ring_rule.specs.Ends.{puts}
use Rattle.ring_rule.proofs.Messages.{framed_front}
use Rattle.mq_ring.specs.Ends.{SendingEnd}
use Rattle.mq_ring.specs.Bursts.{words_from}
use Rattle.mq_handle.proofs.Filling.{length-frame, first_run, other_run}
use Rattle.mq_handle.proofs.storing.put_frame_words.Goals as goal

pub put_words-requires-clause-inside : goal.put_words-requires-clause-inside
put_words-requires-clause-inside c = omega (arith, c.requires.inside, length-frame c.args.message.now, c.if-at-gt0.true)

pub put_words-requires-clause-framed : goal.put_words-requires-clause-framed
put_words-requires-clause-framed c = subst (λ (xs : List ℕ). IsFramed c.args.tx.now.end.ring.max (c.args.tx.now.end.put ++ xs)) (other_run c.args.message.now c.args.at c.args.run c.if-at-gt0.true) c.requires.framed

pub returns-then-at-gt0 : goal.returns-then-at-gt0
returns-then-at-gt0 c = c.put_words.ensures ∙ ap (λ (xs : List ℕ). record c.args.tx.now { end = fold puts c.args.tx.now.end xs }) (sym (other_run c.args.message.now c.args.at c.args.run c.if-at-gt0.true))

pub put_words-requires-2-clause-inside : goal.put_words-requires-2-clause-inside
put_words-requires-2-clause-inside c = omega (arith, c.requires.inside, c.requires.some, length-frame c.args.message.now)

pub put-requires-clause-framed : goal.put-requires-clause-framed
put-requires-clause-framed c =
    let put = c.args.tx.now.end.put in
    let m = c.args.message.now in
    let ws = words_from 0 (c.args.run - 1) m in
    let run = first_run m c.args.at c.args.run (omega (arith, c.if-at-gt0.false)) c.requires.some in
    subst (λ (n : ℕ). IsFramed c.args.tx.now.end.ring.max (put ++ (n ∷ []))) (sym c.len.ensures.count)
    (framed_front c.args.tx.now.end.ring.max (put ++ take c.args.run (drop c.args.at (frame m))) (put ++ (length m ∷ [])) ws c.requires.framed
    (ap (λ (xs : List ℕ). put ++ xs) run ∙ sym (append_assoc put (length m ∷ []) ws)))

pub put_words-requires-2-clause-framed : goal.put_words-requires-2-clause-framed
put_words-requires-2-clause-framed c =
    let put = c.args.tx.now.end.put in
    let m = c.args.message.now in
    let ws = words_from 0 (c.args.run - 1) m in
    let run = first_run m c.args.at c.args.run (omega (arith, c.if-at-gt0.false)) c.requires.some in
    let end : c.put.new.self.end ≡ puts c.args.tx.now.end (length m) = ap (λ (o : SendingEnd). o.end) c.put.ensures ∙ ap (puts c.args.tx.now.end) c.len.ensures.count in
    subst (λ (s : Sending). IsFramed s.ring.max (s.put ++ ws)) (sym end)
    (subst (IsFramed c.args.tx.now.end.ring.max) (ap (λ (xs : List ℕ). put ++ xs) run ∙ sym (append_assoc put (length m ∷ []) ws)) c.requires.framed)

pub put_words-requires-2-clause-room : goal.put_words-requires-2-clause-room
put_words-requires-2-clause-room c =
    let end : c.put.new.self.end ≡ puts c.args.tx.now.end (length c.args.message.now) = ap (λ (o : SendingEnd). o.end) c.put.ensures ∙ ap (puts c.args.tx.now.end) c.len.ensures.count in
    subst (λ (s : Sending). length s.put + (c.args.run - 1) ≤ s.room + s.ring.size) (sym end) (omega (arith, c.requires.room, c.requires.some, length-append c.args.tx.now.end.put (length c.args.message.now ∷ [])))

pub returns : goal.returns
returns c =
    let m = c.args.message.now in
    let ws = words_from 0 (c.args.run - 1) m in
    c.put_words-2.ensures
    ∙ ap (λ (o : SendingEnd). record o { end = fold puts o.end ws }) c.put.ensures
    ∙ ap (λ (n : ℕ). record c.args.tx.now { end = fold puts (puts c.args.tx.now.end n) ws }) c.len.ensures.count
    ∙ ap (λ (xs : List ℕ). record c.args.tx.now { end = fold puts c.args.tx.now.end xs }) (sym (first_run m c.args.at c.args.run (omega (arith, c.if-at-gt0.false)) c.requires.some))

use Rattle.std.proofs.Common.{◌≡◌, ◌≤◌, ◌-◌, ◌+◌, ℕ, List, ◌++◌, length, take, drop, min, sym, ap, subst, ◌∙◌, arith, append_assoc}
use Rattle.std.proofs.lemmas.List.{take-append-drop}
use Rattle.ring_rule.proofs.Messages.{framed_front}
use Rattle.std.specs.List.{fold}
use Rattle.ring_rule.specs.Frames.{frame}
use Rattle.ring_rule.specs.Ring.{Sending}
use Rattle.ring_rule.specs.Ends.{puts}
use Rattle.mq_ring.specs.Ends.{SendingEnd}
use Rattle.mq_ring.proofs.Runs.{has_put}
use Rattle.mq_handle.specs.Held.{Counted}
use Rattle.mq_handle.proofs.Filling.{length-frame, run_fits, length-run, counted_run}
use Rattle.mq_handle.proofs.storing.store_run.Goals as goal

pub overflow_sub-total : goal.overflow_sub-total
overflow_sub-total c = omega (arith, length-frame c.args.message.now, c.requires.more, c.words_of-total.ensures, c.len.ensures.count)

pub put_frame_words-requires-clause-inside : goal.put_frame_words-requires-clause-inside
put_frame_words-requires-clause-inside c = omega (arith, length-frame c.args.message.now, c.requires.more, c.words_of-total.ensures, c.len.ensures.count, c.min-run.ensures)

pub put_frame_words-requires-clause-some : goal.put_frame_words-requires-clause-some
put_frame_words-requires-clause-some c = omega (arith, length-frame c.args.message.now, c.requires.some, c.requires.more, c.words_of-total.ensures, c.len.ensures.count, c.min-run.ensures)

pub put_frame_words-requires-clause-framed : goal.put_frame_words-requires-clause-framed
put_frame_words-requires-clause-framed c =
    let put = c.args.tx.now.end.put in
    let rest = drop c.args.counts.words (frame c.args.message.now) in
    framed_front c.args.tx.now.end.ring.max (put ++ rest) (put ++ take c.min-run.result rest) (drop c.min-run.result rest) c.requires.framed
    (ap (λ (xs : List ℕ). put ++ xs) (sym (take-append-drop c.min-run.result rest)) ∙ sym (append_assoc put (take c.min-run.result rest) (drop c.min-run.result rest)))

pub returns-clause-end : goal.returns-clause-end
returns-clause-end c =
    let m = c.args.message.now in
    let is : c.min-run.result ≡ min c.args.counts.free (length (frame m) - c.args.counts.words) = omega (arith, length-frame m, c.words_of-total.ensures, c.len.ensures.count, c.min-run.ensures) in
    c.put_frame_words.ensures ∙ ap (λ (xs : List ℕ). record c.args.tx.now { end = fold puts c.args.tx.now.end xs }) (run_fits m c.args.counts.words c.args.counts.free c.min-run.result is)

pub returns-clause-words : goal.returns-clause-words
returns-clause-words c = omega (arith, length-frame c.args.message.now, c.words_of-total.ensures, c.len.ensures.count, c.min-run.ensures)

pub returns-clause-counted : goal.returns-clause-counted
returns-clause-counted c =
    let m = c.args.message.now in
    let xs : List ℕ = take c.min-run.result (drop c.args.counts.words (frame m)) in
    let end : c.put_frame_words.new.tx.end ≡ fold puts c.args.tx.now.end xs = ap (λ (o : SendingEnd). o.end) c.put_frame_words.ensures in
    let low : c.args.counts.words + c.min-run.result ≤ length (frame m) = omega (arith, length-frame m, c.requires.more, c.words_of-total.ensures, c.len.ensures.count, c.min-run.ensures) in
    subst (λ (s : Sending). Counted s (c.args.counts.free - c.min-run.result) (c.args.counts.unpublished + c.min-run.result)) (sym end)
    (counted_run c.args.tx.now.end (fold puts c.args.tx.now.end xs) _ _ c.min-run.result xs c.requires.counted (omega (arith, c.min-run.ensures)) (length-run m c.args.counts.words c.min-run.result low) (has_put c.args.tx.now.end xs))

use Rattle.std.proofs.Common.{◌≡◌, ◌+◌, ℕ, List, ◌++◌, length, drop, sym, ap, subst, ◌∙◌, arith, append_assoc, length-append}
use Rattle.std.specs.List.{fold}
use Rattle.std.proofs.lemmas.List.Sums.{fold-append}
use Rattle.rel_pointer.specs.Bytes.{word_count, packed_words}
use Rattle.ring_rule.specs.Frames.{IsFramed}
use Rattle.ring_rule.specs.Ring.{Ring, Sending}
use Rattle.ring_rule.specs.Ends.{puts}
use Rattle.mq_ring.specs.Ends.{SendingEnd}
use Rattle.mq_ring.specs.Bursts.{words_from}
use Rattle.mq_ring.proofs.Runs.{HasPut, has_put, length-words, run_framed, words_then}
use Rattle.mq_handle.specs.Parts.{joined}
use Rattle.mq_handle.proofs.body.put_parts.Goals as goal

-- what the words that are put so far leave
so_far : (old new : SendingEnd) (xs : List ℕ) → new ≡ record old { end = fold puts old.end xs } → HasPut old.end new.end xs
so_far old new xs e = subst (λ (o : SendingEnd). HasPut old.end o.end xs) (sym e) (has_put old.end xs)

pub put_burst-requires-clause-here : goal.put_burst-requires-clause-here
put_burst-requires-clause-here c = ap (λ (o : SendingEnd). o.region) c.loop-done.invariant.put ∙ c.requires.here

pub put_burst-requires-clause-stays : goal.put_burst-requires-clause-stays
put_burst-requires-clause-stays c = (so_far c.args.tx.now c.loop-done.tx (words_from c.args.from c.loop-done.done (joined c.args.parts.now)) c.loop-done.invariant.put).gone ∙ c.requires.stays

pub put_burst-requires-clause-room : goal.put_burst-requires-clause-room
put_burst-requires-clause-room c =
    let m = joined c.args.parts.now in
    let xs = words_from c.args.from c.loop-done.done m in
    let h = so_far c.args.tx.now c.loop-done.tx xs c.loop-done.invariant.put in
    let count = length-words c.args.from c.loop-done.done m (omega (arith, c.requires.inside, c.requires.len, c.loop-done.invariant.low)) in
    let size = ap (λ (r : Ring). r.size) h.ring in
    omega (arith, ap length h.put, length-append c.args.tx.now.end.put xs, count, h.room, size, c.requires.room, c.min-run.ensures, c.loop-done-test.true)

pub put_burst-requires-clause-framed : goal.put_burst-requires-clause-framed
put_burst-requires-clause-framed c =
    let m = joined c.args.parts.now in
    let put = c.args.tx.now.end.put in
    let xs = words_from c.args.from c.loop-done.done m in
    let ys = words_from (c.args.from + c.loop-done.done) c.min-run.result m in
    let h = so_far c.args.tx.now c.loop-done.tx xs c.loop-done.invariant.put in
    let same : c.loop-done.tx.end.put ++ ys ≡ put ++ words_from c.args.from (c.loop-done.done + c.min-run.result) m =
    ap (λ (z : List ℕ). z ++ ys) h.put ∙ append_assoc put xs ys ∙ ap (λ (z : List ℕ). put ++ z) (words_then c.args.from c.loop-done.done c.min-run.result m) in
    subst (λ (r : Ring). IsFramed r.max (c.loop-done.tx.end.put ++ ys)) (sym h.ring)
    (subst (IsFramed c.args.tx.now.end.ring.max) (sym same)
    (run_framed c.args.tx.now.end.ring.max (c.loop-done.done + c.min-run.result) c.args.words put (drop c.args.from (packed_words (word_count (length m)) m)) (omega (arith, c.min-run.ensures, c.loop-done-test.true)) c.requires.framed))

pub loop-done-preserved : goal.loop-done-preserved
loop-done-preserved c =
    let m = joined c.args.parts.now in
    let old = c.args.tx.now in
    let xs = words_from c.args.from c.loop-done.done m in
    let ys = words_from (c.args.from + c.loop-done.done) c.min-run.result m in
    record {
      low = omega (arith, c.min-run.ensures, c.loop-done-test.true);
      put = c.put_burst.ensures
          ∙ ap (λ (o : SendingEnd). record o { end = fold puts o.end ys }) c.loop-done.invariant.put
          ∙ ap (λ (s : Sending). record old { end = s }) (sym (fold-append puts old.end xs ys) ∙ ap (fold puts old.end) (words_then c.args.from c.loop-done.done c.min-run.result m));
    }

pub returns : goal.returns
returns c =
    let all : c.loop-done.done ≡ c.args.words = omega (arith, c.loop-done.invariant.low, c.loop-done-test.false) in
    c.loop-done.invariant.put ∙ ap (λ (n : ℕ). record c.args.tx.now { end = fold puts c.args.tx.now.end (words_from c.args.from n (joined c.args.parts.now)) }) all

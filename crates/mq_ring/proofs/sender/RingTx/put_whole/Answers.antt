use Rattle.std.proofs.Common.{◌≡◌, ◌+◌, ℕ, List, ◌++◌, length, drop, sym, ap, subst, ◌∙◌, arith, append_assoc, length-append}
use Rattle.std.specs.List.{fold}
use Rattle.std.proofs.lemmas.List.Sums.{fold-append}
use Rattle.rel_pointer.specs.Bytes.{word_count, packed_words}
use Rattle.ring_rule.specs.Frames.{IsFramed}
use Rattle.ring_rule.specs.Ring.{Ring, Sending}
use Rattle.ring_rule.specs.Ends.{puts}
use Rattle.mq_ring.specs.Ends.{SendingEnd}
use Rattle.mq_ring.specs.Bursts.{words_from}
use Rattle.mq_ring.proofs.Runs.{HasPut, has_put, length-words, run_framed, words_then}
use Rattle.mq_ring.proofs.sender.RingTx.put_whole.Goals as goal

-- what the words that are put so far leave
so_far : (old new : SendingEnd) (xs : List ℕ) → new ≡ record old { end = fold puts old.end xs } → HasPut old.end new.end xs
so_far old new xs e = subst (λ (o : SendingEnd). HasPut old.end o.end xs) (sym e) (has_put old.end xs)

pub put_row-requires-clause-here : goal.put_row-requires-clause-here
put_row-requires-clause-here c = ap (λ (o : SendingEnd). o.region) c.loop-done.invariant.put ∙ c.requires.here

pub put_row-requires-clause-stays : goal.put_row-requires-clause-stays
put_row-requires-clause-stays c = (so_far c.args.self.now c.loop-done.self (words_from c.args.from c.loop-done.done c.args.bytes.now) c.loop-done.invariant.put).gone ∙ c.requires.stays

pub put_row-requires-clause-room : goal.put_row-requires-clause-room
put_row-requires-clause-room c =
    let m = c.args.bytes.now in
    let xs = words_from c.args.from c.loop-done.done m in
    let h = so_far c.args.self.now c.loop-done.self xs c.loop-done.invariant.put in
    let count = length-words c.args.from c.loop-done.done m (omega (arith, c.requires.inside, c.loop-done.invariant.low)) in
    let size = ap (λ (r : Ring). r.size) h.ring in
    omega (arith, ap length h.put, length-append c.args.self.now.end.put xs, count, h.room, size, c.requires.room, c.min-run.ensures, c.loop-done-test.true)

pub put_row-requires-clause-framed : goal.put_row-requires-clause-framed
put_row-requires-clause-framed c =
    let m = c.args.bytes.now in
    let put = c.args.self.now.end.put in
    let xs = words_from c.args.from c.loop-done.done m in
    let ys = words_from (c.args.from + c.loop-done.done) c.min-run.result m in
    let h = so_far c.args.self.now c.loop-done.self xs c.loop-done.invariant.put in
    let same : c.loop-done.self.end.put ++ ys ≡ put ++ words_from c.args.from (c.loop-done.done + c.min-run.result) m =
    ap (λ (z : List ℕ). z ++ ys) h.put ∙ append_assoc put xs ys ∙ ap (λ (z : List ℕ). put ++ z) (words_then c.args.from c.loop-done.done c.min-run.result m) in
    subst (λ (r : Ring). IsFramed r.max (c.loop-done.self.end.put ++ ys)) (sym h.ring)
    (subst (IsFramed c.args.self.now.end.ring.max) (sym same)
    (run_framed c.args.self.now.end.ring.max (c.loop-done.done + c.min-run.result) c.args.words put (drop c.args.from (packed_words (word_count (length m)) m)) (omega (arith, c.min-run.ensures, c.loop-done-test.true)) c.requires.framed))

pub loop-done-preserved : goal.loop-done-preserved
loop-done-preserved c =
    let m = c.args.bytes.now in
    let old = c.args.self.now in
    let xs = words_from c.args.from c.loop-done.done m in
    let ys = words_from (c.args.from + c.loop-done.done) c.min-run.result m in
    record {
      low = omega (arith, c.min-run.ensures, c.loop-done-test.true);
      put = c.put_row.ensures
          ∙ ap (λ (o : SendingEnd). record o { end = fold puts o.end ys }) c.loop-done.invariant.put
          ∙ ap (λ (s : Sending). record old { end = s }) (sym (fold-append puts old.end xs ys) ∙ ap (fold puts old.end) (words_then c.args.from c.loop-done.done c.min-run.result m));
    }

pub returns : goal.returns
returns c =
    let all : c.loop-done.done ≡ c.args.words = omega (arith, c.loop-done.invariant.low, c.loop-done-test.false) in
    c.loop-done.invariant.put ∙ ap (λ (n : ℕ). record c.args.self.now { end = fold puts c.args.self.now.end (words_from c.args.from n c.args.bytes.now) }) all

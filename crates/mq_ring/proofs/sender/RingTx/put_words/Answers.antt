use Rattle.std.proofs.Common.{◌≡◌, ◌+◌, ℕ, List, [], ◌∷◌, ◌++◌, length, drop, sym, ap, subst, ◌∙◌, arith, append_assoc, length-append}
use Rattle.std.specs.List.{fold}
use Rattle.rel_pointer.specs.Bytes.{word_count, packed_words}
use Rattle.ring_rule.specs.Frames.{IsFramed}
use Rattle.ring_rule.specs.Ring.{Ring, Sending}
use Rattle.ring_rule.specs.Ends.{puts}
use Rattle.mq_ring.specs.Ends.{SendingEnd}
use Rattle.mq_ring.specs.Bursts.{words_from}
use Rattle.mq_ring.proofs.Runs.{HasPut, has_put, put_next, next_word, length-words, run_framed}
use Rattle.mq_ring.proofs.sender.RingTx.put_words.Goals as goal

-- what the words that are put so far leave
so_far : (old new : SendingEnd) (xs : List ℕ) → new ≡ record old { end = fold puts old.end xs } → HasPut old.end new.end xs
so_far old new xs e = subst (λ (o : SendingEnd). HasPut old.end o.end xs) (sym e) (has_put old.end xs)

pub put-requires-clause-here : goal.put-requires-clause-here
put-requires-clause-here c = ap (λ (o : SendingEnd). o.region) c.loop-k.invariant ∙ c.requires.here

pub put-requires-clause-stays : goal.put-requires-clause-stays
put-requires-clause-stays c = (so_far c.args.self.now c.loop-k.self (words_from c.args.from c.loop-k.k c.args.bytes.now) c.loop-k.invariant).gone ∙ c.requires.stays

pub put-requires-clause-room : goal.put-requires-clause-room
put-requires-clause-room c =
    let xs = words_from c.args.from c.loop-k.k c.args.bytes.now in
    let h = so_far c.args.self.now c.loop-k.self xs c.loop-k.invariant in
    let count = length-words c.args.from c.loop-k.k c.args.bytes.now (omega (arith, c.requires.inside, c.loop-k-test.true)) in
    let size = ap (λ (r : Ring). r.size) h.ring in
    omega (arith, ap length h.put, length-append c.args.self.now.end.put xs, count, h.room, size, c.requires.room, c.loop-k-test.true)

pub put-requires-clause-framed : goal.put-requires-clause-framed
put-requires-clause-framed c =
    let xs = words_from c.args.from c.loop-k.k c.args.bytes.now in
    let put = c.args.self.now.end.put in
    let h = so_far c.args.self.now c.loop-k.self xs c.loop-k.invariant in
    let next = next_word c.args.from c.loop-k.k c.pack.result c.args.bytes.now (omega (arith, c.requires.inside, c.loop-k-test.true)) c.pack.ensures.word in
    let same : c.loop-k.self.end.put ++ (c.pack.result ∷ []) ≡ put ++ words_from c.args.from (c.loop-k.k + 1) c.args.bytes.now =
    ap (λ (z : List ℕ). z ++ (c.pack.result ∷ [])) h.put ∙ append_assoc put xs (c.pack.result ∷ []) ∙ ap (λ (z : List ℕ). put ++ z) next in
    subst (λ (r : Ring). IsFramed r.max (c.loop-k.self.end.put ++ (c.pack.result ∷ []))) (sym h.ring)
    (subst (IsFramed c.args.self.now.end.ring.max) (sym same)
    (run_framed c.args.self.now.end.ring.max (c.loop-k.k + 1) c.args.words put (drop c.args.from (packed_words (word_count (length c.args.bytes.now)) c.args.bytes.now)) (omega (arith, c.loop-k-test.true)) c.requires.framed))

pub loop-k-preserved : goal.loop-k-preserved
loop-k-preserved c =
    let old = c.args.self.now in
    let xs = words_from c.args.from c.loop-k.k c.args.bytes.now in
    let next = next_word c.args.from c.loop-k.k c.pack.result c.args.bytes.now (omega (arith, c.requires.inside, c.loop-k-test.true)) c.pack.ensures.word in
    c.put.ensures
    ∙ ap (λ (o : SendingEnd). record o { end = puts o.end c.pack.result }) c.loop-k.invariant
    ∙ ap (λ (s : Sending). record old { end = s }) (put_next old.end xs c.pack.result ∙ ap (fold puts old.end) next)

pub put_whole-requires-clause-framed : goal.put_whole-requires-clause-framed
put_whole-requires-clause-framed c =
    run_framed c.args.self.now.end.ring.max c.whole_words-whole.result c.args.words c.args.self.now.end.put (drop c.args.from (packed_words (word_count (length c.args.bytes.now)) c.args.bytes.now)) c.whole_words-whole.ensures.few c.requires.framed

pub returns : goal.returns
returns c =
    let all : c.loop-k.k ≡ c.args.words = omega (arith, c.loop-k-test.false, c.loop-k.auto.k-end, c.whole_words-whole.ensures.few) in
    c.loop-k.invariant ∙ ap (λ (n : ℕ). record c.args.self.now { end = fold puts c.args.self.now.end (words_from c.args.from n c.args.bytes.now) }) all

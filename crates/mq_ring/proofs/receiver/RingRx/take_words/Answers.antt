use Rattle.std.proofs.Common.{◌≡◌, ◌+◌, ℕ, List, [], ◌∷◌, ◌++◌, length, refl, sym, ap, subst, ◌∙◌, arith, length-append}
use Rattle.std.specs.List.{fold}
use Rattle.ring_rule.specs.Frames.{IsFramed}
use Rattle.ring_rule.specs.Ring.{Ring, Receiving}
use Rattle.ring_rule.specs.Ends.{takes}
use Rattle.mq_ring.specs.Ends.{ReceivingEnd}
use Rattle.mq_ring.proofs.Runs.{HasTaken, has_taken, take_next, word_more}
use Rattle.mq_ring.proofs.receiver.RingRx.take_words.Goals as goal

-- what the words that are taken so far leave
so_far : (old new : ReceivingEnd) (xs : List ℕ) → new ≡ record old { end = fold takes old.end xs } → HasTaken old.end new.end xs
so_far old new xs e = subst (λ (o : ReceivingEnd). HasTaken old.end o.end xs) (sym e) (has_taken old.end xs)

pub take-word-requires-clause-here : goal.take-word-requires-clause-here
take-word-requires-clause-here c = let t = c.loop-k.invariant.taken in ap (λ (o : ReceivingEnd). o.region) t.2 ∙ c.requires.here

pub take-word-requires-clause-stays : goal.take-word-requires-clause-stays
take-word-requires-clause-stays c = let t = c.loop-k.invariant.taken in (so_far c.args.self.now c.loop-k.self t.0 t.2).gone ∙ c.requires.stays

pub take-word-requires-clause-ready : goal.take-word-requires-clause-ready
take-word-requires-clause-ready c =
    let t = c.loop-k.invariant.taken in
    let h = so_far c.args.self.now c.loop-k.self t.0 t.2 in
    omega (arith, ap length h.taken, length-append c.args.self.now.end.taken t.0, t.1, h.avail, c.requires.ready, c.loop-k-test.true)

pub loop-k-preserved : goal.loop-k-preserved
loop-k-preserved c =
    let old = c.args.self.now in
    let t = c.loop-k.invariant.taken in
    let h = so_far old c.loop-k.self t.0 t.2 in
    let word = c.take-word.result in
    record {
      taken = (
        t.0 ++ (word ∷ []),
        length-append t.0 (word ∷ []) ∙ ap (λ (n : ℕ). n + 1) t.1,
        c.take-word.ensures.end
            ∙ ap (λ (o : ReceivingEnd). record o { end = takes o.end word }) t.2
            ∙ ap (λ (q : Receiving). record old { end = q }) (take_next old.end t.0 word),
        word_more c.args.out.now c.loop-k.out c.unpack.new.out c.args.from c.loop-k.k word t.0 c.loop-k.invariant.len t.1 (omega (arith, c.requires.inside, c.loop-k-test.true)) t.3 c.unpack.ensures.bytes,
      );
      framed = λ some. subst (λ (r : Ring). IsFramed r.max c.take-word.new.self.end.taken) h.ring c.take-word.ensures.framed;
      len = c.unpack.ensures.len ∙ c.loop-k.invariant.len;
    }

pub returns-clause-taken : goal.returns-clause-taken
returns-clause-taken c =
    let t = c.loop-k.invariant.taken in
    let all : c.loop-k.k ≡ c.args.words = omega (arith, c.loop-k-test.false, c.loop-k.auto.k-end, c.whole_words-whole.ensures.few) in
    (t.0, t.1 ∙ all, t.2, t.3)

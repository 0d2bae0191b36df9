use Rattle.std.proofs.Common.{◌≡◌, ◌+◌, ◌<◌, ℕ, List, [], ◌++◌, length, refl, sym, ap, subst, ◌∙◌, arith, length-append}
use Rattle.std.specs.List.{fold}
use Rattle.std.proofs.lemmas.List.Sums.{fold-append}
use Rattle.ring_rule.specs.Frames.{IsFramed}
use Rattle.ring_rule.specs.Ring.{Ring, Receiving}
use Rattle.ring_rule.specs.Ends.{takes}
use Rattle.mq_ring.specs.Ends.{ReceivingEnd}
use Rattle.mq_ring.proofs.Runs.{HasTaken, has_taken, words_both, no_words}
use Rattle.mq_ring.proofs.receiver.RingRx.take_whole.Goals as goal

-- what the words that are taken so far leave
so_far : (old new : ReceivingEnd) (xs : List ℕ) → new ≡ record old { end = fold takes old.end xs } → HasTaken old.end new.end xs
so_far old new xs e = subst (λ (o : ReceivingEnd). HasTaken old.end o.end xs) (sym e) (has_taken old.end xs)

pub take_row-requires-clause-here : goal.take_row-requires-clause-here
take_row-requires-clause-here c = let t = c.loop-done.invariant.taken in ap (λ (o : ReceivingEnd). o.region) t.2 ∙ c.requires.here

pub take_row-requires-clause-stays : goal.take_row-requires-clause-stays
take_row-requires-clause-stays c = let t = c.loop-done.invariant.taken in (so_far c.args.self.now c.loop-done.self t.0 t.2).gone ∙ c.requires.stays

pub take_row-requires-clause-ready : goal.take_row-requires-clause-ready
take_row-requires-clause-ready c =
    let t = c.loop-done.invariant.taken in
    let h = so_far c.args.self.now c.loop-done.self t.0 t.2 in
    omega (arith, ap length h.taken, length-append c.args.self.now.end.taken t.0, t.1, h.avail, c.requires.ready, c.min-run.ensures, c.loop-done-test.true)

pub loop-done-preserved : goal.loop-done-preserved
loop-done-preserved c =
    let old = c.args.self.now in
    let t = c.loop-done.invariant.taken in
    let n = c.take_row.ensures.taken in
    let h = so_far old c.loop-done.self t.0 t.2 in
    record {
      low = omega (arith, c.min-run.ensures, c.loop-done-test.true);
      taken = (
        t.0 ++ n.0,
        length-append t.0 n.0 ∙ ap (λ (i : ℕ). i + length n.0) t.1 ∙ ap (λ (i : ℕ). c.loop-done.done + i) n.1,
        n.2
            ∙ ap (λ (o : ReceivingEnd). record o { end = fold takes o.end n.0 }) t.2
            ∙ ap (λ (q : Receiving). record old { end = q }) (sym (fold-append takes old.end t.0 n.0)),
        words_both c.args.out.now c.loop-done.out c.take_row.new.out c.args.from c.loop-done.done t.0 n.0 c.loop-done.invariant.len t.1 t.3 n.3,
      );
      framed = λ low. subst (λ (r : Ring). IsFramed r.max c.take_row.new.self.end.taken) h.ring (c.take_row.ensures.framed (omega (arith, c.min-run.ensures, c.loop-done-test.true, c.cells_ahead.ensures.some)));
      len = c.take_row.ensures.len ∙ c.loop-done.invariant.len;
    }

pub loop-done-init : goal.loop-done-init
loop-done-init c = record { low = omega arith; taken = ([], refl, refl, no_words c.args.out.now c.args.from); framed = λ low. absurd (omega arith); len = refl }

pub returns-clause-taken : goal.returns-clause-taken
returns-clause-taken c =
    let t = c.loop-done.invariant.taken in
    let all : c.loop-done.done ≡ c.args.words = omega (arith, c.loop-done.invariant.low, c.loop-done-test.false) in
    (t.0, t.1 ∙ all, t.2, t.3)

pub returns-clause-framed : goal.returns-clause-framed
returns-clause-framed c = λ low. c.loop-done.invariant.framed (omega (arith, c.loop-done.invariant.low, c.loop-done-test.false, low))

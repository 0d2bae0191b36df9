use Rattle.std.proofs.Common.{ℕ, List, subst, ◌∙◌, arith}
use Rattle.mq_handle.specs.Taking.{InHand}
use Rattle.mq_handle.proofs.Hands.{base_same, hand_open, takes_on, only_on}
use Rattle.mq_handle.proofs.taking.take_words.Goals as goal

pub loop-taken-smaller : goal.loop-taken-smaller
loop-taken-smaller c = omega (arith, c.take_run-taken.ensures.some, c.take_run-taken.ensures.further)

pub loop-taken-preserved : goal.loop-taken-preserved
loop-taken-preserved c =
    let base = base_same _ _ _ _ _ _ c.loop-taken.invariant.hand in
    record {
      kept = only_on c.args.rx.now c.loop-taken.rx c.take_run-taken.new.rx c.loop-taken.invariant.kept c.take_run-taken.ensures.kept;
      takes = takes_on _ _ _ c.loop-taken.invariant.takes c.take_run-taken.ensures.takes;
      looks = (c.take_run-taken.ensures.looks.0 ∙ c.loop-taken.invariant.looks.0, c.take_run-taken.ensures.looks.1 ∙ c.loop-taken.invariant.looks.1);
      steps = omega (arith, c.loop-taken.invariant.steps, c.take_run-taken.ensures.steps);
      words = omega (arith, c.loop-taken.invariant.words, c.take_run-taken.ensures.words);
      counted = c.take_run-taken.ensures.counted;
      hand = subst (λ (b : List ℕ). InHand c.take_run-taken.new.rx.end.ring.max b c.take_run-taken.new.rx.end.taken c.take_run-taken.new.buffer c.take_run-taken.result.words c.take_run-taken.result.len) base c.take_run-taken.ensures.hand;
      unfinished = hand_open _ _ _ _ _ _ c.take_run-taken.ensures.hand (omega (arith, c.take_run-taken.ensures.some)) (λ e. c.if-taken-words_of.false (omega (arith, e, c.words_of.ensures)));
      further = omega (arith, c.loop-taken.invariant.further, c.take_run-taken.ensures.further);
      more = omega (arith, c.loop-taken.invariant.more, c.take_run-taken.ensures.some);
    }

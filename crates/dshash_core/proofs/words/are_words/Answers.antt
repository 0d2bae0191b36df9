use Rattle.std.proofs.Common.{◌+◌, arith, ap, sym, ◌∙◌, refl}
use Rattle.region_words.specs.Parts.{Owned}
use Rattle.dshash_core.specs.Chains.{word}
use Rattle.dshash_core.proofs.Chains.{words_are, words_differ, word_is}
use Rattle.dshash_core.proofs.words.are_words.Goals as goal

pub returns-then-load-x-clause-equal : goal.returns-then-load-x-clause-equal
returns-then-load-x-clause-equal c = (
  λ t. cc,
  λ e. absurd (words_differ (word c.args.part.now.words) c.args.at c.args.words.now c.loop-i.i c.loop-i-test.true
      (λ s. c.if-load-x.true (sym (word_is c.loop-i.part.words (c.args.at + c.loop-i.i) c.load.result c.load.ensures.found) ∙ ap (λ (p : Owned). word p.words (c.args.at + c.loop-i.i)) c.loop-i.invariant.same ∙ s)) e),
)

pub returns-clause-equal : goal.returns-clause-equal
returns-clause-equal c = (λ t. words_are _ _ _ (λ k h. c.loop-i.invariant.equal k (omega arith)), λ e. refl)

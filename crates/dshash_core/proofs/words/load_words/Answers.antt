use Rattle.std.proofs.Common.{ℕ, arith, ap, sym, ◌∙◌}
use Rattle.dshash_core.specs.Chains.{word, words_at}
use Rattle.dshash_core.proofs.Chains.{words_are}
use Rattle.dshash_core.proofs.words.load_words.Goals as goal

pub returns-clause-words : goal.returns-clause-words
returns-clause-words c =
    sym (words_are (word c.args.part.now.words) c.args.at c.loop-i.out (λ k h. sym (c.loop-i.invariant.read k (omega arith))))
    ∙ ap (λ (n : ℕ). words_at (word c.args.part.now.words) c.args.at n) c.loop-i.auto.out

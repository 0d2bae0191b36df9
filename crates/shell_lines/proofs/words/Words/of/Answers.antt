use Rattle.std.proofs.Common.{◌≡◌, ◌∙◌, ◌++◌, List, ℕ, Bor, Option, map, option_map, take, length-set, subst, arith}
use Rattle.shell_lines.proofs.Cuts.{more-than, pieces, words-next}
use Rattle.shell_lines.specs.Words.{words_of}
use Rattle.shell_lines.proofs.words.Words.of.Goals as goal

pub returns-then-count-eq-MOST_WORDS-clause-none : goal.returns-then-count-eq-MOST_WORDS-clause-none
returns-then-count-eq-MOST_WORDS-clause-none c =
    let inv = c.words.invariant in
    let so_far = subst (λ (o : Option (Bor (List ℕ))). map (λ word. word.now) (take c.words.count c.words.words) ++ pieces (option_map (λ text. text.now) o) ≡ words_of c.args.line.now) c.in-Some.is inv.words in
    more-than (λ (word : Bor (List ℕ)). word.now) c.words.words c.words.count c.in-Some.text.now c.args.line.now c.if-count-eq-MOST_WORDS.true inv.long so_far

pub words-preserved : goal.words-preserved
words-preserved c =
    let inv = c.words.invariant in
    let so_far = subst (λ (o : Option (Bor (List ℕ))). map (λ word. word.now) (take c.words.count c.words.words) ++ pieces (option_map (λ text. text.now) o) ≡ words_of c.args.line.now) c.in-Some.is inv.words in
    record {
      few = omega (arith, inv.few, c.if-count-eq-MOST_WORDS.false);
      long = length-set c.words.words c.words.count c.cut.result.0 ∙ inv.long;
      words = words-next (λ (word : Bor (List ℕ)). word.now) c.words.words c.words.count c.cut.result.0 c.in-Some.text.now c.args.line.now (option_map (λ text. text.now) c.cut.result.1) (omega (arith, inv.few, inv.long, c.if-count-eq-MOST_WORDS.false)) c.cut.ensures.first c.cut.ensures.behind so_far;
    }

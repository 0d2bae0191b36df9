use Rattle.std.proofs.Common.{◌+◌, ◌∷◌, ◌++◌, ◌∙◌, [], ap, arith, length-set, sym, unwrap_or, add-one}
use Rattle.std.proofs.lemmas.List.{take_more_set}
use Rattle.plan_descriptor.proofs.Values.{values_from-more}
use Rattle.region_words.specs.Parts.{Owned}
use Rattle.word_map.specs.WordMap.{at}
use Rattle.plan_descriptor.proofs.copied.Goals as goal

pub words-preserved : goal.words-preserved
words-preserved c =
    let inv = c.words.invariant in
    let words = c.args.frozen.now.words in
    let read = ap (λ o. unwrap_or o 0) (ap (λ (o : Owned). at o.words (c.args.at + c.words.k)) (sym inv.same) ∙ c.load.ensures.found) in
    record {
      size = length-set c.words.words c.words.k c.load.result ∙ inv.size;
      front = take_more_set c.words.words c.words.k c.load.result (omega (arith, inv.size, c.words-test.true, c.requires.size))
          ∙ (λ i. inv.front i ++ sym read i ∷ [])
          ∙ sym (rw (add-one c.words.k) (values_from-more words c.args.at c.words.k));
      same = c.load.ensures.same ∙ inv.same;
    }

use Rattle.std.proofs.Common.{◌≡◌, ◌≢◌, ◌+◌, IsSome, is_some, ap, ◌∙◌, arith, ⊎_elim}
use Rattle.std.specs.FinMap as fin
use Rattle.word_map.specs.WordMap.{WordMap, at}
use Rattle.word_map.proofs.Maps.{insert-keys}
use Rattle.region_words.specs.Parts.{Owned}
use Rattle.dshash_core.specs.Chains.{word}
use Rattle.dshash_core.proofs.Chains.{word_same, word_other, same_or_not}
use Rattle.dshash_core.proofs.words.blank.Goals as goal

pub loop-i-preserved : goal.loop-i-preserved
loop-i-preserved c =
    let here = c.args.from + c.loop-i.i in
    let m = c.loop-i.part.words in
    let is : c.store.new.self.words ≡ fin.insert m here 0 = ap (λ (p : Owned). p.words) c.store.ensures in
    let has : IsSome (at m here) = c.loop-i.invariant.keys here ∙ c.requires.owns here (omega arith) (omega arith) in
    record {
      region = ap (λ (p : Owned). p.region) c.store.ensures ∙ c.loop-i.invariant.region;
      zeros = λ k low high. ap (λ (x : WordMap). word x k) is ∙ ⊎_elim
          (λ (e : k ≡ here). word_same m here 0 k e)
          (λ (n : k ≢ here). word_other m here 0 k n ∙ c.loop-i.invariant.zeros k low (omega arith))
          (same_or_not k here);
      keys = λ k. ap (λ (x : WordMap). is_some (at x k)) is ∙ insert-keys m here 0 k has ∙ c.loop-i.invariant.keys k;
    }

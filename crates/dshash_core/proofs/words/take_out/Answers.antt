use Rattle.std.proofs.Common.{IsSome, ap, sym, subst, ◌∙◌}
use Rattle.std.specs.FinMap as fin
use Rattle.word_map.specs.WordMap.{at}
use Rattle.word_map.proofs.Maps.{insert-keys}
use Rattle.region_words.specs.Parts.{Owned}
use Rattle.dshash_core.proofs.Chains.{word_is}
use Rattle.dshash_core.proofs.Hooks.{taken_out, taken_just}
use Rattle.dshash_core.proofs.words.take_out.Goals as goal

pub split-item-requires-clause-owns : goal.split-item-requires-clause-owns
split-item-requires-clause-owns c = λ k low high.
    subst (λ (p : Owned). IsSome (at p.words k)) (sym c.store.ensures)
    (subst (λ (p : Owned). IsSome (at (fin.insert p.words c.args.link c.load-next.result) k)) (sym c.load-next.ensures.same)
    (insert-keys c.args.part.now.words c.args.link c.load-next.result k c.requires.link ∙ c.requires.item.1 k low high))

pub returns-clause-item : goal.returns-clause-item
returns-clause-item c = record {
  0 = ap (λ (p : Owned). p.region) c.split-item.ensures.range ∙ ap (λ (p : Owned). p.region) c.store.ensures ∙ ap (λ (p : Owned). p.region) c.load-next.ensures.same;
  1 = taken_just c.store.new.self.words c.split-item.result.words c.args.at c.args.len
      (λ k low high.
      subst (λ (p : Owned). IsSome (at p.words k)) (sym c.store.ensures)
      (subst (λ (p : Owned). IsSome (at (fin.insert p.words c.args.link c.load-next.result) k)) (sym c.load-next.ensures.same)
      (insert-keys c.args.part.now.words c.args.link c.load-next.result k c.requires.link ∙ c.requires.item.1 k low high)))
      (ap (λ (p : Owned). p.words) c.split-item.ensures.range);
}

pub returns-clause-out : goal.returns-clause-out
returns-clause-out c =
    taken_out c.args.part.now.words c.store.new.self.words c.split-item.new.self.words c.split-item.result.words c.args.link c.args.at c.args.len c.load-next.result
    c.requires.link c.requires.item.0 c.requires.apart
    (word_is c.args.part.now.words c.args.at c.load-next.result c.load-next.ensures.found)
    (ap (λ (p : Owned). p.words) c.store.ensures ∙ ap (λ (p : Owned). fin.insert p.words c.args.link c.load-next.result) c.load-next.ensures.same)
    (ap (λ (p : Owned). p.words) c.split-item.ensures.rest)
    (ap (λ (p : Owned). p.words) c.split-item.ensures.range)
    c.is_small.ensures

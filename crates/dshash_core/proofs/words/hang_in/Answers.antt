use Rattle.std.proofs.Common.{◌≡◌, IsSome, is_some, ap, sym, subst, ◌∙◌}
use Rattle.std.specs.FinMap as fin
use Rattle.word_map.specs.WordMap.{at, union}
use Rattle.word_map.proofs.Maps.{insert-keys}
use Rattle.region_words.specs.Parts.{Owned}
use Rattle.dshash_core.specs.Chains.{word}
use Rattle.dshash_core.proofs.Chains.{word_is}
use Rattle.dshash_core.proofs.Hooks.{hung_in, union_left, union_right, left_word}
use Rattle.dshash_core.proofs.words.hang_in.Goals as goal

pub load-first-requires-clause-owns : goal.load-first-requires-clause-owns
load-first-requires-clause-owns c =
    subst (λ (p : Owned). IsSome (at p.words c.args.link)) (sym c.join.ensures.both)
    (ap is_some (union_left c.args.part.now.words c.args.item.words c.args.link c.join.ensures.apart c.requires.link) ∙ c.requires.link)

pub store-requires-clause-owns : goal.store-requires-clause-owns
store-requires-clause-owns c =
    subst (λ (p : Owned). IsSome (at p.words c.args.at)) (sym (c.load-first.ensures.same ∙ c.join.ensures.both))
    (ap is_some (union_right c.args.part.now.words c.args.item.words c.args.at c.requires.item) ∙ c.requires.item)

pub store-requires-2-clause-owns : goal.store-requires-2-clause-owns
store-requires-2-clause-owns c =
    let both = c.load-first.ensures.same ∙ c.join.ensures.both in
    let m = c.args.part.now.words in
    let n = c.args.item.words in
    subst (λ (p : Owned). IsSome (at p.words c.args.link)) (sym c.store.ensures)
    (subst (λ (p : Owned). IsSome (at (fin.insert p.words c.args.at c.load-first.result) c.args.link)) (sym both)
    (insert-keys (union m n) c.args.at c.load-first.result c.args.link (ap is_some (union_right m n c.args.at c.requires.item) ∙ c.requires.item)
    ∙ ap is_some (union_left m n c.args.link c.join.ensures.apart c.requires.link) ∙ c.requires.link))

pub returns-clause-hung : goal.returns-clause-hung
returns-clause-hung c =
    let m = c.args.part.now.words in
    let n = c.args.item.words in
    let both : c.load-first.new.self ≡ record { region = c.args.part.now.region; words = union m n } = c.load-first.ensures.same ∙ c.join.ensures.both in
    let first : word m c.args.link ≡ c.load-first.result =
    sym (ap (λ (o : Owned). word o.words c.args.link) c.join.ensures.both ∙ left_word m n c.args.link c.join.ensures.apart c.requires.link)
    ∙ word_is c.join.new.self.words c.args.link c.load-first.result c.load-first.ensures.found in
    hung_in m n c.store-2.new.self.words c.args.link c.args.at c.load-first.result c.join.ensures.apart c.requires.link c.requires.item first
    (ap (λ (p : Owned). p.words) c.store-2.ensures
    ∙ ap (λ (p : Owned). fin.insert p.words c.args.link c.args.at) c.store.ensures
    ∙ ap (λ (p : Owned). fin.insert (fin.insert p.words c.args.at c.load-first.result) c.args.link c.args.at) both)
    c.is_small.ensures

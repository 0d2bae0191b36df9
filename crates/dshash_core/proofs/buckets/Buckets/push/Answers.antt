use Rattle.std.proofs.Common.{◌≡◌, ◌+◌, ◌%◌, ◌/◌, ◌∷◌, ℕ, ap, sym, subst, ◌∙◌}
use Rattle.word_map.specs.WordMap.{HasJust}
use Rattle.dshash_core.specs.Hung.{Hung, with_chain, chain_of, IsItemChunk}
use Rattle.dshash_core.specs.Walk.{IsHungIn}
use Rattle.dshash_core.proofs.Views.{bucket_in, link_fits, owned_link, seen}
use Rattle.dshash_core.proofs.Changes.{pushed_stands, pushed_seen}
use Rattle.dshash_core.proofs.buckets.Buckets.push.Goals as goal

pub overflow_add-self-inside : goal.overflow_add-self-inside
overflow_add-self-inside c = link_fits c.self.inside c.self.invariant c.args.bucket (bucket_in c.self.inside c.self.invariant c.args.self.now c.self.view_is c.args.bucket c.requires.bucket)

pub hang_in-requires-clause-link : goal.hang_in-requires-clause-link
hang_in-requires-clause-link c = owned_link c.self.inside c.self.invariant c.args.bucket (bucket_in c.self.inside c.self.invariant c.args.self.now c.self.view_is c.args.bucket c.requires.bucket)

pub invariant_of-self : goal.invariant_of-self
invariant_of-self c =
    let b = c.self.inside in
    let l = bucket_in b c.self.invariant c.args.self.now c.self.view_is c.args.bucket c.requires.bucket in
    let size : c.args.item.bytes ≡ b.item_bytes = c.requires.size ∙ ap (λ (u : Hung). u.layout.item_bytes) (sym c.self.view_is) in
    let k = c.requires.item in
    let it = subst (λ (u : Hung). IsItemChunk c.args.item.at c.args.item.part.words u.layout k.0) (sym c.self.view_is) k.1 in
    pushed_stands b c.self.invariant c.hang_in.new.part c.args.item.part.words c.args.bucket c.args.item.at k.0 l c.hang_in.ensures.region
    (subst (λ (a : ℕ). IsHungIn b.part.words c.args.item.part.words c.hang_in.new.part.words (b.slice + c.args.bucket) a) c.word.ensures c.hang_in.ensures.hung)
    (subst (λ (n : ℕ). HasJust c.args.item.part.words c.args.item.at (n / 8)) size c.args.item.just)
    (subst (λ (n : ℕ). n % 8 ≡ 0) size c.args.item.whole)
    c.args.item.valid it.reads it.hashed

pub returns : goal.returns
returns c = λ it is_item.
    let b = c.self.inside in
    let l = bucket_in b c.self.invariant c.args.self.now c.self.view_is c.args.bucket c.requires.bucket in
    let size : c.args.item.bytes ≡ b.item_bytes = c.requires.size ∙ ap (λ (u : Hung). u.layout.item_bytes) (sym c.self.view_is) in
    let own = subst (λ (u : Hung). IsItemChunk c.args.item.at c.args.item.part.words u.layout it) (sym c.self.view_is) is_item in
    let P : Hung → Type 0 = λ u. seen (record b { part = c.hang_in.new.part }) ≡ with_chain u c.args.bucket (it ∷ chain_of u c.args.bucket) in
    subst P c.self.view_is
    (pushed_seen b c.self.invariant c.hang_in.new.part c.args.item.part.words c.args.bucket c.args.item.at it l c.hang_in.ensures.region
    (subst (λ (a : ℕ). IsHungIn b.part.words c.args.item.part.words c.hang_in.new.part.words (b.slice + c.args.bucket) a) c.word.ensures c.hang_in.ensures.hung)
    (subst (λ (n : ℕ). HasJust c.args.item.part.words c.args.item.at (n / 8)) size c.args.item.just)
    (subst (λ (n : ℕ). n % 8 ≡ 0) size c.args.item.whole)
    c.args.item.valid own.reads own.hashed)

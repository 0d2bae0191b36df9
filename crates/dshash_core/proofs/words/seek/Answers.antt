use Rattle.std.proofs.Common.{◌≡◌, ◌≢◌, ◌<◌, ◌+◌, ℕ, arith, ap, subst, sym, ◌∙◌, length, IsSome, true, false}
use Rattle.word_map.specs.WordMap.{at}
use Rattle.region_words.specs.Parts.{Owned}
use Rattle.dshash_core.specs.Chains.{word, most_words, words_at, places}
use Rattle.dshash_core.specs.Walk.{IsReadable}
use Rattle.dshash_core.proofs.Chains.{word_is, length-places}
use Rattle.dshash_core.proofs.Walks.{Walked, begins, item_on, walk_found, walk_none, walk_on, walk_shorter}
use Rattle.dshash_core.proofs.words.seek.Goals as goal

pub loop-item-init : goal.loop-item-init
loop-item-init c =
    let m = c.args.part.now.words in
    let n = most_words in
    record {
      same = c.load-item.ensures.same;
      walked = subst (λ (a : ℕ). Walked m (places (word m) n (word m c.args.link)) c.args.link c.args.link a (length c.args.key.now) c.args.key.now)
          (word_is m c.args.link c.load-item.result c.load-item.ensures.found)
          (begins m n c.args.link (length c.args.key.now) c.args.key.now c.requires.chain);
    }

pub has_key-requires-clause-item : goal.has_key-requires-clause-item
has_key-requires-clause-item c =
    let items = c.requires.items in (
      items.0,
      items.1,
      subst (λ (p : Owned). IsReadable p.words items.0 (length c.args.key.now) c.loop-item.item) (sym c.loop-item.invariant.same)
          (items.2 c.loop-item.item (item_on _ _ _ _ _ _ _ c.loop-item.invariant.walked c.loop-item-test.true)),
    )

pub returns-then-has_key-clause-found : goal.returns-then-has_key-clause-found
returns-then-has_key-clause-found c =
    walk_found _ _ _ _ _ _ _ c.loop-item.invariant.walked c.loop-item-test.true
    (subst (λ (p : Owned). words_at (word p.words) (c.loop-item.item + 2) (length c.args.key.now) ≡ c.args.key.now) c.loop-item.invariant.same (c.has_key.ensures.equal.0 c.if-has_key.true))

pub load-item-requires-in-loop-item-clause-owns : goal.load-item-requires-in-loop-item-clause-owns
load-item-requires-in-loop-item-clause-owns c =
    subst (λ (p : Owned). IsSome (at p.words c.loop-item.item)) (sym (c.has_key.ensures.same ∙ c.loop-item.invariant.same))
    ((c.requires.items.2 c.loop-item.item (item_on _ _ _ _ _ _ _ c.loop-item.invariant.walked c.loop-item-test.true)).owned c.loop-item.item (omega arith) (omega arith))

pub loop-item-smaller : goal.loop-item-smaller
loop-item-smaller c =
    let m = c.args.part.now.words in
    let n = most_words in
    let all : c.has_key.new.part ≡ c.args.part.now = c.has_key.ensures.same ∙ c.loop-item.invariant.same in
    let next : c.load-item-in-loop-item.result ≡ word m c.loop-item.item = sym (word_is c.has_key.new.part.words c.loop-item.item c.load-item-in-loop-item.result c.load-item-in-loop-item.ensures.found) ∙ ap (λ (p : Owned). word p.words c.loop-item.item) all in
    subst (λ (a : ℕ). length (places (word m) n a) < length (places (word m) n c.loop-item.item)) (sym next)
    (walk_shorter m (places (word m) n (word m c.args.link)) c.args.link c.loop-item.behind c.loop-item.item (length c.args.key.now) c.args.key.now n (length-places (word m) n (word m c.args.link)) c.loop-item.invariant.walked c.loop-item-test.true)

pub loop-item-preserved : goal.loop-item-preserved
loop-item-preserved c =
    let m = c.args.part.now.words in
    let n = most_words in
    let all : c.has_key.new.part ≡ c.args.part.now = c.has_key.ensures.same ∙ c.loop-item.invariant.same in
    let next : c.load-item-in-loop-item.result ≡ word m c.loop-item.item = sym (word_is c.has_key.new.part.words c.loop-item.item c.load-item-in-loop-item.result c.load-item-in-loop-item.ensures.found) ∙ ap (λ (p : Owned). word p.words c.loop-item.item) all in
    let differs : words_at (word m) (c.loop-item.item + 2) (length c.args.key.now) ≢ c.args.key.now = λ e.
    let t : c.has_key.result ≡ true = c.has_key.ensures.equal.1 (ap (λ (p : Owned). words_at (word p.words) (c.loop-item.item + 2) (length c.args.key.now)) c.loop-item.invariant.same ∙ e) in
    let f : c.has_key.result ≡ false = c.if-has_key.false in cc in
    record {
      same = c.load-item-in-loop-item.ensures.same ∙ all;
      walked = subst (λ (a : ℕ). Walked m (places (word m) n (word m c.args.link)) c.args.link c.loop-item.item a (length c.args.key.now) c.args.key.now) (sym next)
          (walk_on _ _ _ _ _ _ _ c.loop-item.invariant.walked c.loop-item-test.true differs);
    }

pub returns-clause-found : goal.returns-clause-found
returns-clause-found c = walk_none _ _ _ _ _ _ _ c.loop-item.invariant.walked c.loop-item-test.false

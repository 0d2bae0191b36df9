use Rattle.std.proofs.Common.{◌≡◌, ℕ, ◌+◌, ◌/◌, ◌≤◌, ◌++◌, ◌∷◌, arith, ap, sym, subst, ◌∙◌, length}
use Rattle.dshash_core.specs.Chains.{word, words_at}
use Rattle.dshash_core.specs.Hung.{Hung, with_chain, IsSpot}
use Rattle.dshash_core.proofs.Views.{bucket_in, item_small, seen}
use Rattle.dshash_core.proofs.Changes.{spot_place, written_stands, written_seen}
use Rattle.dshash_core.proofs.buckets.Buckets.write_value.Goals as goal

pub overflow_add-spot : goal.overflow_add-spot
overflow_add-spot c =
    let b = c.self.inside in
    let room : 2 + b.key_words + b.value_words ≤ b.item_bytes / 8 = c.self.invariant.fits in
    let l = bucket_in b c.self.invariant c.args.self.now c.self.view_is c.args.bucket c.requires.bucket in
    let m = spot_place b c.self.invariant c.args.self.now c.self.view_is c.args.bucket c.args.spot.link c.args.spot.item c.requires.bucket c.requires.spot in
    let small = item_small b c.self.invariant c.args.spot.item (c.args.spot.item + 1) (c.self.invariant.items c.args.bucket c.args.spot.item l m) (omega arith) (omega arith) in
    omega (arith, small)

pub overflow_add-spot-2 : goal.overflow_add-spot-2
overflow_add-spot-2 c =
    let b = c.self.inside in
    let room : 2 + b.key_words + b.value_words ≤ b.item_bytes / 8 = c.self.invariant.fits in
    let l = bucket_in b c.self.invariant c.args.self.now c.self.view_is c.args.bucket c.requires.bucket in
    let m = spot_place b c.self.invariant c.args.self.now c.self.view_is c.args.bucket c.args.spot.link c.args.spot.item c.requires.bucket c.requires.spot in
    let small = item_small b c.self.invariant c.args.spot.item (c.args.spot.item + 1 + b.key_words) (c.self.invariant.items c.args.bucket c.args.spot.item l m) (omega arith) (omega arith) in
    omega (arith, small)

pub store_words-requires-clause-owns : goal.store_words-requires-clause-owns
store_words-requires-clause-owns c = λ k low high.
    let b = c.self.inside in
    let room : 2 + b.key_words + b.value_words ≤ b.item_bytes / 8 = c.self.invariant.fits in
    let l = bucket_in b c.self.invariant c.args.self.now c.self.view_is c.args.bucket c.requires.bucket in
    let m = spot_place b c.self.invariant c.args.self.now c.self.view_is c.args.bucket c.args.spot.link c.args.spot.item c.requires.bucket c.requires.spot in
    let long : length c.args.value.now ≡ b.value_words = c.requires.value ∙ ap (λ (u : Hung). u.layout.value_words) (sym c.self.view_is) in
    (c.self.invariant.items c.args.bucket c.args.spot.item l m).owned k (omega arith) (omega arith)

pub invariant_of-self : goal.invariant_of-self
invariant_of-self c =
    let b = c.self.inside in
    let l = bucket_in b c.self.invariant c.args.self.now c.self.view_is c.args.bucket c.requires.bucket in
    let m = spot_place b c.self.invariant c.args.self.now c.self.view_is c.args.bucket c.args.spot.link c.args.spot.item c.requires.bucket c.requires.spot in
    let long : length c.args.value.now ≡ b.value_words = c.requires.value ∙ ap (λ (u : Hung). u.layout.value_words) (sym c.self.view_is) in
    written_stands b c.self.invariant c.store_words.new.part c.args.bucket c.args.spot.item (length c.args.value.now) l long m
    record { region = c.store_words.ensures.region; keys = c.store_words.ensures.keys; below = c.store_words.ensures.below; behind = c.store_words.ensures.behind }

pub returns : goal.returns
returns c = λ it s e.
    let b = c.self.inside in
    let l = bucket_in b c.self.invariant c.args.self.now c.self.view_is c.args.bucket c.requires.bucket in
    let m = spot_place b c.self.invariant c.args.self.now c.self.view_is c.args.bucket c.args.spot.link c.args.spot.item c.requires.bucket c.requires.spot in
    let long : length c.args.value.now ≡ b.value_words = c.requires.value ∙ ap (λ (u : Hung). u.layout.value_words) (sym c.self.view_is) in
    let p = c.store_words.new.part in
    let P : Hung → Type 0 = λ u. (t : IsSpot u c.args.bucket c.args.spot.link it) → seen (record b { part = p }) ≡ with_chain u c.args.bucket (t.before ++ record it { value = c.args.value.now } ∷ t.after) in
    subst P c.self.view_is
    (λ t. written_seen b c.self.invariant p c.args.bucket c.args.spot.item (length c.args.value.now) l long m
    record { region = c.store_words.ensures.region; keys = c.store_words.ensures.keys; below = c.store_words.ensures.below; behind = c.store_words.ensures.behind }
    c.args.spot.link it c.args.value.now t e
    (ap (λ (n : ℕ). words_at (word p.words) (c.args.spot.item + 2 + b.key_words) n) (sym long) ∙ c.store_words.ensures.words))
    s

use Rattle.std.proofs.Common.{◌≡◌, ℕ, ◌+◌, ◌/◌, ◌≤◌, arith, ap, sym, ◌∙◌, length}
use Rattle.dshash_core.specs.Hung.{Hung}
use Rattle.dshash_core.specs.Chains.{word, words_at, Item}
use Rattle.dshash_core.proofs.Views.{held_at, held_item, item_small}
use Rattle.dshash_core.proofs.buckets.Buckets.read_value.Goals as goal

pub overflow_add-item : goal.overflow_add-item
overflow_add-item c =
    let room : 2 + c.self.inside.key_words + c.self.inside.value_words ≤ c.self.inside.item_bytes / 8 = c.self.invariant.fits in
    let small = item_small c.self.inside c.self.invariant c.args.item (c.args.item + 1) (held_at c.self.inside c.self.invariant c.args.self.now c.self.view_is c.args.item c.requires.item) (omega arith) (omega arith) in
    omega (arith, small)

pub overflow_add-item-2 : goal.overflow_add-item-2
overflow_add-item-2 c =
    let room : 2 + c.self.inside.key_words + c.self.inside.value_words ≤ c.self.inside.item_bytes / 8 = c.self.invariant.fits in
    let small = item_small c.self.inside c.self.invariant c.args.item (c.args.item + 1 + c.self.inside.key_words) (held_at c.self.inside c.self.invariant c.args.self.now c.self.view_is c.args.item c.requires.item) (omega arith) (omega arith) in
    omega (arith, small)

pub load_words-requires-clause-owns : goal.load_words-requires-clause-owns
load_words-requires-clause-owns c = λ k low high.
    let room : 2 + c.self.inside.key_words + c.self.inside.value_words ≤ c.self.inside.item_bytes / 8 = c.self.invariant.fits in
    let long : length c.args.out.now ≡ c.self.inside.value_words = c.requires.room ∙ ap (λ (h : Hung). h.layout.value_words) (sym c.self.view_is) in
    (held_at c.self.inside c.self.invariant c.args.self.now c.self.view_is c.args.item c.requires.item).owned k (omega arith) (omega arith)

pub returns-clause-value : goal.returns-clause-value
returns-clause-value c = λ it m e.
    let long : length c.args.out.now ≡ c.self.inside.value_words = c.requires.room ∙ ap (λ (h : Hung). h.layout.value_words) (sym c.self.view_is) in
    c.load_words.ensures.words
    ∙ ap (λ (n : ℕ). words_at (word c.self.inside.part.words) (c.args.item + 2 + c.self.inside.key_words) n) long
    ∙ ap (λ (a : ℕ). words_at (word c.self.inside.part.words) (a + 2 + c.self.inside.key_words) c.self.inside.value_words) (sym e)
    ∙ ap (λ (x : Item). x.value) (held_item c.self.inside c.self.invariant c.args.self.now c.self.view_is it m).1

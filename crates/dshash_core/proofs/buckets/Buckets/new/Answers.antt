use Rattle.std.proofs.Common.{◌≡◌, ℕ, ◌/◌, ◌≤◌, ◌<◌, [], arith, sym, subst, ◌∙◌, replicate}
use Rattle.word_map.proofs.Maps.{just_has}
use Rattle.dshash_core.specs.Chains.{each_below}
use Rattle.dshash_core.specs.Hung.{AreHung, chain_places, chain_items}
use Rattle.dshash_core.proofs.Hooks.{most_is}
use Rattle.dshash_core.proofs.Changes.{empty_stands, empty_chains}
use Rattle.dshash_core.proofs.buckets.Buckets.new.Goals as goal

pub invariant_of-result : goal.invariant_of-result
invariant_of-result c =
    let room : c.args.buckets ≤ c.args.slice.bytes / 8 = c.requires.room in
    subst (λ (a : ℕ). AreHung a (c.args.slice.bytes / 8) c.args.buckets c.args.seed c.args.key_words c.args.value_words c.args.item_bytes c.blank.new.part.words (chain_places c.blank.new.part.words a)) (sym c.word-2.ensures)
    (empty_stands c.blank.new.part c.args.slice.at (c.args.slice.bytes / 8) c.args.buckets c.args.seed c.args.key_words c.args.value_words c.args.item_bytes c.args.slice.valid c.requires.room c.requires.fits
    (λ k low high. c.blank.ensures.keys k ∙ just_has c.args.slice.part.words c.args.slice.at (c.args.slice.bytes / 8) k c.args.slice.just low high)
    (λ k has. let small : k < 67108864 = c.is_small.ensures k has in omega (arith, most_is))
    (λ k low high. c.blank.ensures.zeros k (omega (arith, c.word.ensures)) (omega (arith, c.word.ensures))))

pub returns : goal.returns
returns c =
    let region = c.blank.ensures.region ∙ c.requires.here in
    let chains : each_below (chain_items c.blank.new.part.words c.word-2.result c.args.key_words c.args.value_words) c.args.buckets ≡ replicate c.args.buckets [] =
    subst (λ (a : ℕ). each_below (chain_items c.blank.new.part.words a c.args.key_words c.args.value_words) c.args.buckets ≡ replicate c.args.buckets []) (sym c.word-2.ensures)
    (empty_chains c.blank.new.part c.args.slice.at (c.args.slice.bytes / 8) c.args.buckets c.args.seed c.args.key_words c.args.value_words c.args.item_bytes c.args.slice.valid c.requires.room c.requires.fits
    (λ k low high. c.blank.ensures.keys k ∙ just_has c.args.slice.part.words c.args.slice.at (c.args.slice.bytes / 8) k c.args.slice.just low high)
    (λ k has. let small : k < 67108864 = c.is_small.ensures k has in omega (arith, most_is))
    (λ k low high. c.blank.ensures.zeros k (omega (arith, c.word.ensures)) (omega (arith, c.word.ensures)))) in
    λ t. record {
      region = region t;
      slice = c.word-2.ensures t;
      words = c.args.slice.bytes / 8;
      layout = record { seed = c.args.seed; key_words = c.args.key_words; value_words = c.args.value_words; item_bytes = c.args.item_bytes };
      chains = chains t;
    }

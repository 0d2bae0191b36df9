use Rattle.std.proofs.Common.{◌≡◌, ◌*◌, ◌/◌, ℕ, sym, ap, subst, ◌∙◌, arith}
use Rattle.word_map.specs.WordMap.{WordMap, HasJust}
use Rattle.dshash_chunks.specs.Stored.{IsStored, chunks_seen}
use Rattle.dshash_chunks.proofs.Shown.{empty-shown}
use Rattle.dshash_chunks.proofs.Frames.{none_split, nothing_stored}
use Rattle.dshash_chunks.proofs.partition.ChunkPartition.new.Goals as goal

pub of-slice-requires-clause-row : goal.of-slice-requires-clause-row
of-slice-requires-clause-row g c =
    let split = subst (λ (m : WordMap). HasJust m c.args.slice.at (c.args.slice.bytes / 8)) (sym (ap (λ o. o.words) c.split-store.ensures.rest)) (none_split c.args.slice.part.words 0 c.args.slice.at (c.args.slice.bytes / 8) c.args.slice.just) in
    subst (λ (n : ℕ). HasJust c.split-store.new.self.words n (c.args.slice.bytes / 8)) (sym c.word.ensures) split

pub invariant_of-result : goal.invariant_of-result
invariant_of-result g c = record {
  here = ap (λ o. o.region) c.split-store.ensures.range ∙ (c.requires.here ∙ sym (ap (λ p. p.region) c.with_seed.ensures));
  stored = subst (λ m. IsStored c.split-store.result.words m) (sym (ap (λ p. p.cells) c.with_seed.ensures)) (nothing_stored c.split-store.result.words);
}

pub returns : goal.returns
returns g c =
    let made = ap (λ p. chunks_seen p c.split-store.result) c.with_seed.ensures in
    let whole : 8 * (c.args.slice.bytes / 8) / 8 ≡ c.args.slice.bytes / 8 = omega arith in
    made ∙ (λ i. record {
      region = c.args.r.now;
      slice = (c.of-slice.ensures.place.0 ∙ c.word.ensures) i;
      words = (ap (λ n. n / 8) c.of-slice.ensures.place.1 ∙ whole) i;
      seed = c.args.seed;
      key_words = c.args.key_words;
      item_bytes = c.args.item_chunk;
      size = 7;
      cells = empty-shown c.split-store.result.words i;
    })

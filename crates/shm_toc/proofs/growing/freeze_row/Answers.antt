use Rattle.std.proofs.Common.{ℕ, ◌/◌, sym, subst, ◌∙◌}
use Rattle.word_map.specs.WordMap.{HasJust}
use Rattle.region_words.specs.Parts.{Owned}
use Rattle.shm_toc.proofs.Kept.{joined_has, row_again, part_again}
use Rattle.shm_toc.proofs.growing.freeze_row.Goals as goal

pub split-words-requires-clause-owns : goal.split-words-requires-clause-owns
split-words-requires-clause-owns c = joined_has c.args.part.now c.args.chunk.part c.join.new.self c.word-at.result (c.args.chunk.bytes / 8) (record {
  both = c.join.ensures.both;
  apart = c.join.ensures.apart;
  row = subst (λ (z : ℕ). HasJust c.args.chunk.part.words z (c.args.chunk.bytes / 8)) (sym c.word-at.ensures) c.args.chunk.just;
})

pub freeze-requires-clause-row : goal.freeze-requires-clause-row
freeze-requires-clause-row c =
    let row = subst (λ (z : ℕ). HasJust c.args.chunk.part.words z (c.args.chunk.bytes / 8)) (sym c.word-at.ensures) c.args.chunk.just in
    subst (λ (z : Owned). HasJust z.words c.word-at.result (c.args.chunk.bytes / 8))
    (sym (row_again c.args.part.now c.args.chunk.part c.join.new.self _ _ _ (record { both = c.join.ensures.both; apart = c.join.ensures.apart; row = row }) (c.requires.here ∙ sym c.requires.chunk_here) c.split-words.ensures.range)) row

pub returns-clause-same : goal.returns-clause-same
returns-clause-same c =
    let row = subst (λ (z : ℕ). HasJust c.args.chunk.part.words z (c.args.chunk.bytes / 8)) (sym c.word-at.ensures) c.args.chunk.just in
    part_again c.args.part.now c.args.chunk.part c.join.new.self _ _ _ (record { both = c.join.ensures.both; apart = c.join.ensures.apart; row = row }) c.split-words.ensures.rest

pub returns-clause-words : goal.returns-clause-words
returns-clause-words c =
    let row = subst (λ (z : ℕ). HasJust c.args.chunk.part.words z (c.args.chunk.bytes / 8)) (sym c.word-at.ensures) c.args.chunk.just in
    c.freeze.ensures ∙ row_again c.args.part.now c.args.chunk.part c.join.new.self _ _ _ (record { both = c.join.ensures.both; apart = c.join.ensures.apart; row = row }) (c.requires.here ∙ sym c.requires.chunk_here) c.split-words.ensures.range

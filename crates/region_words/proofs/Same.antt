-- Chunks and runs of the same words are one: each fact that they keep has one proof at most.
use Rattle.std.proofs.Common.{◌≡◌, ◌*◌, ◌/◌, ◌%◌, ◌<◌}
use Rattle.std.specs.Coded.{le_prop, Coded-set, coded_ℕ}
use mathlib.Core.HLevel.{is_prop→PathP}
use Rattle.word_map.specs.WordMap.{HasJust}
use Rattle.region_words.specs.Parts.{HasJust-prop}
use Rattle.region_words.specs.declared.chunk.Chunk.{Chunk}
use Rattle.region_words.specs.declared.chunk.Run.{Run}

pub one_chunk : (c d : Chunk) → c.at ≡ d.at → c.bytes ≡ d.bytes → c.part ≡ d.part → c ≡ d
one_chunk c d e f g = λ i. record {
  at = e i;
  bytes = f i;
  part = g i;
  valid = is_prop→PathP (λ j. 0 < e j) (λ j. le_prop) c.valid d.valid i;
  whole = is_prop→PathP (λ j. f j % 8 ≡ 0) (λ j. Coded-set coded_ℕ (f j % 8) 0) c.whole d.whole i;
  just = is_prop→PathP (λ j. HasJust (g j).words (e j) (f j / 8)) (λ j. HasJust-prop (g j).words (e j) (f j / 8)) c.just d.just i;
}

pub one_run : (c d : Run) → c.at ≡ d.at → c.pages ≡ d.pages → c.words ≡ d.words → c.control ≡ d.control → c ≡ d
one_run c d e f g h = λ i. record {
  at = e i;
  pages = f i;
  words = g i;
  control = h i;
  valid = is_prop→PathP (λ j. 0 < e j) (λ j. le_prop) c.valid d.valid i;
  just = is_prop→PathP (λ j. HasJust (g j).words (e j) (512 * f j)) (λ j. HasJust-prop (g j).words (e j) (512 * f j)) c.just d.just i;
}

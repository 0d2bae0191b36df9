use Rattle.std.proofs.Common.{◌∙◌, ap, arith, cond, refl}
use Rattle.std.specs.Prelude.{Some, None}
use Rattle.word_map.proofs.Maps.{at-range_in, at-insert_same, within_true}
use Rattle.region_words.specs.Parts.{Owned}
use Rattle.word_map.specs.WordMap.{at as word_at}
use Rattle.uses_book.proofs.Sums.{has_some}
use Rattle.uses_book.proofs.tests.with_77.Goals as goal

pub split-one-requires-clause-owns : goal.split-one-requires-clause-owns
split-one-requires-clause-owns c = λ k lo hi. has_some _ 0 (c.in_ok-region.ensures.zeros k ∙ ap (λ b. cond b (Some 0) None) (within_true 0 8 k (omega arith) (omega arith)))

pub store-requires-clause-owns : goal.store-requires-clause-owns
store-requires-clause-owns c = has_some _ 0 (ap (λ (p : Owned). word_at p.words 1) c.split-one.ensures.range ∙ (at-range_in _ 1 1 1 refl ∙ (c.in_ok-region.ensures.zeros 1 ∙ refl)))

pub returns-clause-one : goal.returns-clause-one
returns-clause-one c = (ap (λ (p : Owned). p.region) c.store.ensures ∙ (ap (λ (p : Owned). p.region) c.split-one.ensures.range ∙ c.in_ok-region.ensures.region), ap (λ (p : Owned). word_at p.words 1) c.store.ensures ∙ at-insert_same _ 1 77 1 refl)

use Rattle.std.proofs.Common.{sym, subst, arith}
use Rattle.word_map.specs.WordMap.{HasJust}
use Rattle.region_words.specs.Parts.{Owned}
use Rattle.word_map.proofs.Uses.{range-there}
use Rattle.uses_rows.proofs.descriptors.first_words.Goals as goal

pub returns-clause-owns : goal.returns-clause-owns
returns-clause-owns c = subst (λ (o : Owned). HasJust o.words 0 48) (sym c.split.ensures.range) (range-there _ 0 48 (λ k low high. c.requires.owns k (omega arith)))

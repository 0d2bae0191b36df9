use Rattle.std.proofs.Common.{sym, subst}
use Rattle.word_map.specs.WordMap.{HasJust}
use Rattle.word_map.proofs.Uses.{range-there}
use Rattle.region_words.specs.Parts.{Owned}
use Rattle.region_words.proofs.part.Part.split_chunk.Goals as goal

pub of-requires-clause-row : goal.of-requires-clause-row
of-requires-clause-row c =
    subst (λ (o : Owned). HasJust o.words c.args.from c.args.len) (sym c.split.ensures.range) (range-there c.args.self.now.words c.args.from c.args.len c.requires.owns)

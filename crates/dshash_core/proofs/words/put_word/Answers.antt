use Rattle.std.proofs.Common.{ℕ, ap, sym, ◌∙◌, Some}
use Rattle.word_map.specs.WordMap.{WordMap}
use Rattle.region_words.specs.Parts.{owned}
use Rattle.dshash_core.proofs.Chains.{insert_same}
use Rattle.dshash_core.proofs.words.put_word.Goals as goal

pub returns-else-load-value : goal.returns-else-load-value
returns-else-load-value c =
    c.load.ensures.same
    ∙ ap (λ (m : WordMap). owned c.args.part.now.region m) (sym (insert_same c.args.part.now.words c.args.at c.args.value (c.load.ensures.found ∙ ap (λ (x : ℕ). Some x) c.if-load-value.false)))

use Rattle.std.proofs.Common.{sym, ap, subst, ◌∙◌}
use Rattle.word_map.specs.WordMap.{at, HasJust}
use Rattle.region_words.specs.Parts.{Owned}
use Rattle.shm_toc.proofs.Tables.{kept_table}
use Rattle.shm_toc.proofs.Kept.{none_row, rest_of_none, apart_from_none, stays_with_none}
use Rattle.shm_toc.proofs.table.Toc.create.Goals as goal

pub freeze-kept-requires-clause-row : goal.freeze-kept-requires-clause-row
freeze-kept-requires-clause-row c = none_row _ _ c.split.ensures.range

pub create-requires-clause-owns : goal.create-requires-clause-owns
create-requires-clause-owns c = subst (λ (o : Owned). HasJust o.words 0 c.args.words) (sym (rest_of_none _ _ c.split.ensures.rest)) c.requires.owns

pub invariant_of-result : goal.invariant_of-result
invariant_of-result c = record {
  table = c.create.ensures.table;
  here = ap (λ (o : Owned). o.region) (c.freeze-kept.ensures ∙ c.split.ensures.range) ∙ c.requires.here ∙ sym c.create.ensures.here;
  apart = apart_from_none c.create.result.words _ _ (c.freeze-kept.ensures ∙ c.split.ensures.range);
}

pub returns-clause-empty : goal.returns-clause-empty
returns-clause-empty c =
    (kept_table _ _ c.create.ensures.table (apart_from_none c.create.result.words _ _ (c.freeze-kept.ensures ∙ c.split.ensures.range))).1 ∙ c.create.ensures.empty

pub returns-clause-others : goal.returns-clause-others
returns-clause-others c = λ k high.
    stays_with_none c.create.result.words _ _ k (c.freeze-kept.ensures ∙ c.split.ensures.range)
    ∙ c.create.ensures.others k high
    ∙ ap (λ (o : Owned). at o.words k) (rest_of_none _ _ c.split.ensures.rest)

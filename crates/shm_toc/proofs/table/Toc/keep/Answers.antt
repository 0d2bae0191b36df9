use Rattle.std.proofs.Common.{sym, ap, ◌∙◌}
use Rattle.word_map.specs.WordMap.{union}
use Rattle.region_words.specs.Parts.{Owned}
use Rattle.shm_toc.specs.Table.{table_of}
use Rattle.shm_toc.proofs.Tables.{kept_table}
use Rattle.shm_toc.proofs.Kept.{keeps_more, keeps_all}
use Rattle.shm_toc.proofs.table.Toc.keep.Goals as goal

pub invariant_of-self : goal.invariant_of-self
invariant_of-self c = keeps_more _ _ _ _ _ _ c.self.invariant c.freeze_chunk-frozen.ensures.same c.freeze_chunk-frozen.ensures.words c.freeze_chunk-frozen.ensures.apart c.gather.ensures

pub returns-clause-words : goal.returns-clause-words
returns-clause-words c =
    keeps_all _ _ _ _ _ _ c.freeze_chunk-frozen.ensures.same c.freeze_chunk-frozen.ensures.words c.gather.ensures
    ∙ ap (λ (o : Owned). union o.words c.args.chunk.part.words) c.self.view_is

pub returns-clause-same : goal.returns-clause-same
returns-clause-same c =
    let more = keeps_more _ _ _ _ _ _ c.self.invariant c.freeze_chunk-frozen.ensures.same c.freeze_chunk-frozen.ensures.words c.freeze_chunk-frozen.ensures.apart c.gather.ensures in
    (kept_table _ _ more.table more.apart).1
    ∙ ap (λ (o : Owned). table_of o.words) c.freeze_chunk-frozen.ensures.same
    ∙ sym (kept_table _ _ c.self.invariant.table c.self.invariant.apart).1
    ∙ ap (λ (o : Owned). table_of o.words) c.self.view_is

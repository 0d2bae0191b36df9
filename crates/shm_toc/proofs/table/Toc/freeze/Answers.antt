use Rattle.std.proofs.Common.{sym, ap, subst, ◌∙◌}
use Rattle.word_map.specs.WordMap.{union}
use Rattle.region_words.specs.Parts.{Owned, owned}
use Rattle.shm_toc.specs.Table.{IsTable}
use Rattle.shm_toc.proofs.Tables.{kept_table}
use Rattle.shm_toc.proofs.table.Toc.freeze.Goals as goal

pub of-requires : goal.of-requires
of-requires c =
    let all = c.gather.ensures ∙ ap (λ (o : Owned). owned o.region (union o.words c.self.inside.kept.words)) c.freeze-frozen.ensures in
    subst (λ (o : Owned). IsTable o.words) (sym all) (kept_table _ _ c.self.invariant.table c.self.invariant.apart).0

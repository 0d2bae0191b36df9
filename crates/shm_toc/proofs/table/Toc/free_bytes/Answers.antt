use Rattle.std.proofs.Common.{sym, ap, subst, ◌∙◌}
use Rattle.region_words.specs.Parts.{Owned}
use Rattle.shm_toc.specs.Table.{free_bytes_of, table_of, IsTable}
use Rattle.shm_toc.proofs.Tables.{kept_table}
use Rattle.shm_toc.proofs.table.Toc.free_bytes.Goals as goal

pub returns-clause-free : goal.returns-clause-free
returns-clause-free c =
    let was = ap (λ (o : Owned). table_of o.words) (sym c.self.view_is) ∙ (kept_table _ _ c.self.invariant.table c.self.invariant.apart).1 in
    c.free_bytes.ensures.free ∙ ap free_bytes_of (sym was)

pub returns-clause-table : goal.returns-clause-table
returns-clause-table c = subst (λ (o : Owned). IsTable o.words) c.self.view_is (kept_table _ _ c.self.invariant.table c.self.invariant.apart).0

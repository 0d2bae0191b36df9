use Rattle.std.proofs.Common.{◌≡◌, ℕ, ◌/◌, ◌≤◌, cond, OnOk, Option, None, sym, ap, subst, ◌∙◌}
use Rattle.std.proofs.lemmas.Result.{IfOk-weaker, IfErr-weaker}
use Rattle.word_map.specs.WordMap.{at, is_within, union}
use Rattle.region_words.specs.Parts.{Owned, owned}
use Rattle.shm_toc.specs.Table.{Table, rounded, free_bytes_of, low_of, front_of, table_of}
use Rattle.shm_toc.specs.Requests.{with_chunk}
use Rattle.shm_toc.specs.Answers.{IsFull}
use Rattle.shm_toc.proofs.Tables.{kept_table}
use Rattle.shm_toc.proofs.Kept.{still_apart, goes_beside}
use Rattle.shm_toc.proofs.table.Toc.allocate.Goals as goal

pub returns-clause-chunk : goal.returns-clause-chunk
returns-clause-chunk c =
    let apart = still_apart _ c.allocate.new.self.words _ c.self.invariant.apart c.allocate.ensures.fewer in
    let now = (kept_table _ _ c.allocate.ensures.table apart).1 in
    IfOk-weaker c.allocate.result _ _ (λ chunk p. (p.0, p.1, p.2 ∙ ap low_of (sym now))) c.allocate.ensures.chunk

pub returns-clause-room : goal.returns-clause-room
returns-clause-room c =
    let was = ap (λ (o : Owned). table_of o.words) (sym c.self.view_is) ∙ (kept_table _ _ c.self.invariant.table c.self.invariant.apart).1 in
    subst (λ (t : Table). OnOk c.allocate.result (rounded c.args.bytes ≤ free_bytes_of t)) (sym was) c.allocate.ensures.room

pub returns-clause-taken : goal.returns-clause-taken
returns-clause-taken c =
    let apart = still_apart _ c.allocate.new.self.words _ c.self.invariant.apart c.allocate.ensures.fewer in
    let now = (kept_table _ _ c.allocate.ensures.table apart).1 in
    let was = ap (λ (o : Owned). table_of o.words) (sym c.self.view_is) ∙ (kept_table _ _ c.self.invariant.table c.self.invariant.apart).1 in
    subst (λ (t : Table). OnOk c.allocate.result (table_of (union c.allocate.new.self.words c.self.inside.kept.words) ≡ with_chunk t c.args.bytes)) (sym was)
    (subst (λ (t : Table). OnOk c.allocate.result (t ≡ with_chunk (table_of c.self.inside.growing.words) c.args.bytes)) (sym now) c.allocate.ensures.taken)

pub returns-clause-others : goal.returns-clause-others
returns-clause-others c =
    let was = ap (λ (o : Owned). table_of o.words) (sym c.self.view_is) ∙ (kept_table _ _ c.self.invariant.table c.self.invariant.apart).1 in
    IfOk-weaker c.allocate.result _ _ (λ chunk given k high.
    goes_beside c.self.inside.growing.words c.allocate.new.self.words c.self.inside.kept.words chunk.at (chunk.bytes / 8) k c.self.invariant.apart (given.had k)
    (given.others k (subst (λ (t : Table). front_of t ≤ k) was high))
    ∙ ap (λ (o : Owned). cond {A = Option ℕ} (is_within chunk.at (chunk.bytes / 8) k) None (at o.words k)) c.self.view_is) c.allocate.ensures.given

pub returns-clause-full : goal.returns-clause-full
returns-clause-full c =
    let was = ap (λ (o : Owned). table_of o.words) (sym c.self.view_is) ∙ (kept_table _ _ c.self.invariant.table c.self.invariant.apart).1 in
    IfErr-weaker c.allocate.result _ _ (λ answer p. (
      subst (λ (t : Table). IsFull t (rounded c.args.bytes) answer) (sym was) p.0,
      ap (λ (o : Owned). owned o.region (union o.words c.self.inside.kept.words)) p.1 ∙ c.self.view_is,
    )) c.allocate.ensures.full

use Rattle.std.proofs.Common.{◌≡◌, ◌≤◌, None, OnOk, sym, ap, subst, ◌∙◌}
use Rattle.std.proofs.lemmas.Result.{on_ok_weaker, IfErr-weaker}
use Rattle.word_map.specs.WordMap.{at, union}
use Rattle.region_words.specs.Parts.{Owned, owned}
use Rattle.shm_toc.specs.Table.{Table, free_bytes_of, front_of, place_of, table_of}
use Rattle.shm_toc.specs.Requests.{with_entry}
use Rattle.shm_toc.specs.Answers.{IsRefused}
use Rattle.shm_toc.proofs.Tables.{kept_table}
use Rattle.shm_toc.proofs.Kept.{still_apart, stays_beside}
use Rattle.shm_toc.proofs.table.Toc.insert.Goals as goal

pub returns-clause-fresh : goal.returns-clause-fresh
returns-clause-fresh c =
    let was = ap (λ (o : Owned). table_of o.words) (sym c.self.view_is) ∙ (kept_table _ _ c.self.invariant.table c.self.invariant.apart).1 in
    subst (λ (t : Table). OnOk c.insert.result (place_of t.entries c.args.key ≡ None)) (sym was) c.insert.ensures.fresh

pub returns-clause-room : goal.returns-clause-room
returns-clause-room c =
    let was = ap (λ (o : Owned). table_of o.words) (sym c.self.view_is) ∙ (kept_table _ _ c.self.invariant.table c.self.invariant.apart).1 in
    subst (λ (t : Table). OnOk c.insert.result (16 ≤ free_bytes_of t)) (sym was) c.insert.ensures.room

pub returns-clause-entered : goal.returns-clause-entered
returns-clause-entered c =
    let apart = still_apart _ c.insert.new.self.words _ c.self.invariant.apart c.insert.ensures.fewer in
    let now = (kept_table _ _ c.insert.ensures.table apart).1 in
    let was = ap (λ (o : Owned). table_of o.words) (sym c.self.view_is) ∙ (kept_table _ _ c.self.invariant.table c.self.invariant.apart).1 in
    subst (λ (t : Table). OnOk c.insert.result (table_of (union c.insert.new.self.words c.self.inside.kept.words) ≡ with_entry t (record { key = c.args.key; place = c.args.at }))) (sym was)
    (subst (λ (t : Table). OnOk c.insert.result (t ≡ with_entry (table_of c.self.inside.growing.words) (record { key = c.args.key; place = c.args.at }))) (sym now) c.insert.ensures.entered)

pub returns-clause-others : goal.returns-clause-others
returns-clause-others c =
    let apart = still_apart _ c.insert.new.self.words _ c.self.invariant.apart c.insert.ensures.fewer in
    let now = (kept_table _ _ c.insert.ensures.table apart).1 in
    on_ok_weaker c.insert.result (λ stays k high.
    stays_beside c.self.inside.growing.words c.insert.new.self.words c.self.inside.kept.words k (stays k (subst (λ (t : Table). front_of t ≤ k) now high))
    ∙ ap (λ (o : Owned). at o.words k) c.self.view_is) c.insert.ensures.others

pub returns-clause-refused : goal.returns-clause-refused
returns-clause-refused c =
    let was = ap (λ (o : Owned). table_of o.words) (sym c.self.view_is) ∙ (kept_table _ _ c.self.invariant.table c.self.invariant.apart).1 in
    IfErr-weaker c.insert.result _ _ (λ answer p. (
      subst (λ (t : Table). IsRefused t c.args.key answer) (sym was) p.0,
      ap (λ (o : Owned). owned o.region (union o.words c.self.inside.kept.words)) p.1 ∙ c.self.view_is,
    )) c.insert.ensures.refused

use Rattle.std.proofs.Common.{◌≡◌, inr, subst}
use Rattle.std.specs.BTreeMap.{insert_entry}
use Rattle.key_index.specs.Index.{IsLate}
use Rattle.key_index.proofs.Late.{by_result, late_found, late_put, late_same, vec_cmp}
use Rattle.key_index.proofs.table.enter.Goals as goal

pub returns-in-Some-clause-entered : goal.returns-in-Some-clause-entered
returns-in-Some-clause-entered c =
    inr (inr (late_found c.args.late.now c.args.keys.now c.args.key.now c.find_late.result _ c.in-Some.is c.find_late.ensures.there c.find_late.ensures.found))

pub returns-clause-late_kept : goal.returns-clause-late_kept
returns-clause-late_kept c = λ other l.
    let old = c.args.late.now in
    let new = c.insert.new.self in
    let keys = c.args.keys.now in
    let copy = c.in_ok-copy.copy in
    by_result c.insert.result (new.entries ≡ insert_entry vec_cmp old.entries copy c.args.place) (new.entries ≡ old.entries) (IsLate new keys other) c.insert.ensures.entries c.insert.ensures.err
    (λ e. late_put old new keys copy c.args.place other e (λ l. c.in_default.ensures.absent (subst (IsLate old keys) c.in_ok-copy.ensures.items l)) l)
    (λ e. late_same old new keys other e l)

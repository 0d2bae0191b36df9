use Rattle.std.proofs.Common.{◌∙◌, ◌∷◌, [], List, ℕ, Ok, ap, arith, length, length-drop}
use Rattle.std.proofs.lemmas.Result.{err_from_is_err_and}
use Rattle.partial_agg.specs.Groups.{GroupsByKey, with_rows}
use Rattle.partial_agg.proofs.Cursor.{first_refused, some_all, some_more, some_refused}
use Rattle.partial_agg.proofs.map.GroupMap.add_left.Goals as goal

pub returns-in_err-add_fields-clause-refused : goal.returns-in_err-add_fields-clause-refused
returns-in_err-add_fields-clause-refused g c =
    let p = err_from_is_err_and c.from_residual-in_err-add_fields.result c.from_residual-in_err-add_fields.ensures.1 in
    let plan = c.args.plan.now in
    let all = g.C.RowCursor.left c.args.cursor.now in
    let why = c.in_err-add_fields.field-0.0 in
    let row = g.C.RowFields.fields c.add_next.new.cursor in
    let rest = g.C.RowCursor.left c.add_next.new.cursor in
    let stopped = c.add_next.ensures.stopped (c.in_ok-add_next.was ∙ ap Ok c.if-branch.true) c.args.self.now all c.rows.invariant.added in
    rw (p.1, p.2) (some_refused plan c.args.width all (row ∷ rest) c.add_next.new.count why stopped.rest (first_refused plan c.args.width row rest 1 why c.in_err-add_fields.ensures.stopped))

pub rows-smaller : goal.rows-smaller
rows-smaller g c =
    let few = c.add_next.ensures.few (c.in_ok-add_next.was ∙ ap Ok c.if-branch.true) in
    omega (arith, few, c.add_next.ensures.rises)

pub rows-preserved : goal.rows-preserved
rows-preserved g c =
    let plan = c.args.plan.now in
    let width = c.args.width in
    let all = g.C.RowCursor.left c.args.cursor.now in
    let row = g.C.RowFields.fields c.add_next.new.cursor in
    let rest = g.C.RowCursor.left c.add_next.new.cursor in
    let ok = c.in_ok-add_next.was ∙ ap Ok c.if-branch.true in
    let few = c.add_next.ensures.few ok in
    let stopped = c.add_next.ensures.stopped ok c.args.self.now all c.rows.invariant.added in
    record {
      few = omega (arith, few, c.rows.invariant.few);
      added = some_more plan width all rest row c.add_next.new.count c.args.self.now c.add_next.new.self c.add_fields.new.self stopped c.in_ok-add_fields.ensures.accepted
          (c.in_ok-add_fields.ensures.added ∙ ap (λ (groups : GroupsByKey). with_rows plan groups (row ∷ [])) c.fit_at.ensures);
    }

pub returns-clause-added : goal.returns-clause-added
returns-clause-added g c =
    let all = g.C.RowCursor.left c.args.cursor.now in
    let ended = c.add_next.ensures.ended (c.in_ok-add_next.was ∙ ap Ok c.if-branch.false) c.args.self.now all c.rows.invariant.added in
    ended.added ∙ ap (with_rows c.args.plan.now c.args.self.now) (some_all all c.add_next.new.count ended.rest)

pub returns-clause-count : goal.returns-clause-count
returns-clause-count g c =
    let all = g.C.RowCursor.left c.args.cursor.now in
    let ended = c.add_next.ensures.ended (c.in_ok-add_next.was ∙ ap Ok c.if-branch.false) c.args.self.now all c.rows.invariant.added in
    omega (arith, ended.within, ap (length {A = List (List ℕ)}) ended.rest, length-drop c.add_next.new.count all)

use Rattle.std.proofs.Common.{◌≡◌, ◌∙◌, ◌∷◌, Ok, ap, arith, length, subst, sym}
use Rattle.std.proofs.lemmas.Result.{err_from_is_err_and}
use Rattle.partial_agg.specs.Cursor.{AddedSome}
use Rattle.partial_agg.specs.Lanes.{states_in}
use Rattle.partial_agg.specs.Placed.{groups_at, places_of}
use Rattle.row_blocks.specs.Blocks.{Table}
use Rattle.partial_agg.proofs.Cursor.{rest_next, some_more, some_next, some_refused}
use Rattle.partial_agg.proofs.run.add_next.Goals as goal

pub returns-in_err-next_row-clause-refused : goal.returns-in_err-next_row-clause-refused
returns-in_err-next_row-clause-refused g c =
    let p = err_from_is_err_and c.from_residual.result c.from_residual.ensures.1 in
    let plan = c.args.plan.now in
    let why = c.in_err-next_row.field-0.0 in
    rw (p.1, p.2) (λ all is. some_refused plan c.args.width all (g.C.RowCursor.left c.rows.cursor) c.rows.count why (c.rows.invariant.rest all is) (c.in_err-next_row.ensures.refused plan))

pub returns-then-not-add_known-clause-stopped : goal.returns-then-not-add_known-clause-stopped
returns-then-not-add_known-clause-stopped g c = λ ok left sorted start all is so_far.
    let step = c.next_row.ensures.row (c.in_ok-next_row.was ∙ ap Ok c.if-branch.true) in
    let same = c.if-not-add_known.ensures.unchanged in
    let groups = groups_at (places_of c.args.keys.now left) (states_in c.args.layout.now c.rows.counts c.rows.lanes) in
    rw (same.0, same.1) (some_next c.args.plan.now c.args.width all (g.C.RowCursor.left c.rows.cursor) (g.C.RowCursor.left c.next_row.new.self) (g.C.RowFields.fields c.next_row.new.self) c.rows.count start groups step
    (c.rows.invariant.added left sorted start all is so_far))

pub rows-preserved : goal.rows-preserved
rows-preserved g c =
    let plan = c.args.plan.now in
    let width = c.args.width in
    let layout = c.args.layout.now in
    let keys = c.args.keys.now in
    let inv = c.rows.invariant in
    let known = c.if-not-add_known.ensures in
    let before = g.C.RowCursor.left c.rows.cursor in
    let rest = g.C.RowCursor.left c.next_row.new.self in
    let row = g.C.RowFields.fields c.next_row.new.self in
    let step : before ≡ row ∷ rest = c.next_row.ensures.row (c.in_ok-next_row.was ∙ ap Ok c.if-branch.true) in
    record {
      counts = known.counts ∙ inv.counts;
      lanes = known.lanes ∙ inv.lanes;
      rises = omega (arith, inv.rises);
      few = omega (arith, inv.few, ap length step);
      rest = λ all is. rest_next all rest row c.rows.count (sym step ∙ inv.rest all is);
      added = λ left sorted start all is so_far.
          let groups = groups_at (places_of keys left) (states_in layout c.rows.counts c.rows.lanes) in
          some_more plan width all rest row c.rows.count start groups (groups_at (places_of keys left) (states_in layout c.add_known.new.counts c.add_known.new.lanes))
          (some_next plan width all before rest row c.rows.count start groups step (inv.added left sorted start all is so_far))
          known.accepted (known.added left sorted (rw inv.counts is));
    }

pub returns-clause-ended : goal.returns-clause-ended
returns-clause-ended g c = λ ok left sorted start all is so_far.
    let none = c.next_row.ensures.end (c.in_ok-next_row.was ∙ ap Ok c.if-branch.false) in
    let groups = groups_at (places_of c.args.keys.now left) (states_in c.args.layout.now c.rows.counts c.rows.lanes) in
    subst (λ (l : Table). AddedSome c.args.plan.now c.args.width all c.rows.count l start groups) none (c.rows.invariant.added left sorted start all is so_far)

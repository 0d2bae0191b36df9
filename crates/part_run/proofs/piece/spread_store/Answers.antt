use Rattle.std.proofs.Common.{◌≡◌, ◌<◌, ◌≤◌, ◌+◌, ◌∙◌, None, ap, arith, length}
use Rattle.csv_rows.specs.Records.{record_at}
use Rattle.par_model.specs.Refuse.{refusal}
use Rattle.partial_agg.specs.Rows.{header_width}
use Rattle.row_blocks.specs.Blocks.{Table}
use Rattle.split_run.proofs.FirstRow.{accepted_on, all_accepted}
use Rattle.part_run.proofs.Rows.{spread_all, spread_next, stops_row}
use Rattle.part_run.proofs.piece.spread_store.Goals as goal

pub loop-before-preserved : goal.loop-before-preserved
loop-before-preserved c =
    let plan = c.args.plan.now in
    let rows = c.args.rows.now in
    let at = c.loop-before.before in
    let low : at + 1 < length rows = omega (arith, c.loop-before-test.true, c.count-count.ensures.rows) in
    let row = c.find.ensures ∙ ap (λ (rs : Table). record_at rs (at + 1)) c.near-near.ensures in
    let fine : refusal plan (header_width rows) (record_at rows (at + 1)) ≡ None = rw (c.width-width.ensures, row) at c.in-Ok.ensures.accepted in
    record {
      lists = spread_next plan rows at c.find.result c.args.lists.now c.loop-before.lists c.spread_row.new.lists low row c.loop-before.invariant.lists c.in-Ok.ensures.spread;
      accepted = accepted_on plan rows at low c.loop-before.invariant.accepted fine;
    }

pub returns-in-Err-clause-refused : goal.returns-in-Err-clause-refused
returns-in-Err-clause-refused c =
    let rows = c.args.rows.now in
    let at = c.loop-before.before in
    let low : at + 1 < length rows = omega (arith, c.loop-before-test.true, c.count-count.ensures.rows) in
    let row = c.find.ensures ∙ ap (λ (rs : Table). record_at rs (at + 1)) c.near-near.ensures in
    stops_row c.args.plan.now rows at c.find.result c.in-Err.why low row (rw c.width-width.ensures at c.in-Err.ensures.stopped)

pub returns-clause-spread : goal.returns-clause-spread
returns-clause-spread c =
    let all : length c.args.rows.now ≤ c.loop-before.before + 1 = omega (arith, c.loop-before-test.false, c.count-count.ensures.rows) in
    spread_all c.args.plan.now c.args.rows.now c.loop-before.before c.args.lists.now c.loop-before.lists all c.loop-before.invariant.lists

pub returns-clause-accepted : goal.returns-clause-accepted
returns-clause-accepted c =
    let all : length c.args.rows.now ≤ c.loop-before.before + 1 = omega (arith, c.loop-before-test.false, c.count-count.ensures.rows) in
    all_accepted c.args.plan.now c.args.rows.now c.loop-before.before all c.loop-before.invariant.accepted

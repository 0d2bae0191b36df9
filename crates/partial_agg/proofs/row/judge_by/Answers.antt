use Rattle.std.proofs.Common.{◌≡◌, ◌∙◌, ◌<◌, ◌≤◌, true, false, length, get_or, Some, None, ap, sym}
use Rattle.par_model.specs.Record.{field_of}
use Rattle.partial_agg.specs.Values.{judged}
use Rattle.partial_agg.proofs.Judging.{goes_on, verdict_kept, verdict_left_out, verdict_misread}
use Rattle.partial_agg.proofs.row.judge_by.Goals as goal

pub returns-in-Some-false : goal.returns-in-Some-false
returns-in-Some-false g c =
    let plan = c.args.plan.now in
    let row = (g.F.RowFields.fields c.args.row.now) in
    let filter = c.filter-item.result in
    let is : filter ≡ get_or plan.filters c.loop-i.i filter = rw (← c.filters-filter-items.ensures.filters) c.filter-item.is in
    let inside : c.loop-i.i < length plan.filters = rw (← c.filters-filter-items.ensures.filters) c.loop-i-test.true in
    let said : judged filter (field_of row filter.column) ≡ Some false = ap (judged filter) (sym c.field.ensures) ∙ sym c.judge_field.ensures ∙ c.in-Some-false.is ∙ ap Some c.in-Some-false.field-0-test in
    sym (verdict_left_out plan row c.loop-i.i filter is c.loop-i.invariant inside said)

pub returns-in-None : goal.returns-in-None
returns-in-None g c =
    let plan = c.args.plan.now in
    let row = (g.F.RowFields.fields c.args.row.now) in
    let filter = c.filter-item.result in
    let is : filter ≡ get_or plan.filters c.loop-i.i filter = rw (← c.filters-filter-items.ensures.filters) c.filter-item.is in
    let inside : c.loop-i.i < length plan.filters = rw (← c.filters-filter-items.ensures.filters) c.loop-i-test.true in
    let said : judged filter (field_of row filter.column) ≡ None = ap (judged filter) (sym c.field.ensures) ∙ sym c.judge_field.ensures ∙ c.in-None.is in
    sym (verdict_misread plan row c.loop-i.i filter is c.loop-i.invariant inside said)

pub loop-i-preserved : goal.loop-i-preserved
loop-i-preserved g c =
    let plan = c.args.plan.now in
    let row = (g.F.RowFields.fields c.args.row.now) in
    let filter = c.filter-item.result in
    let is : filter ≡ get_or plan.filters c.loop-i.i filter = rw (← c.filters-filter-items.ensures.filters) c.filter-item.is in
    let inside : c.loop-i.i < length plan.filters = rw (← c.filters-filter-items.ensures.filters) c.loop-i-test.true in
    let said : judged filter (field_of row filter.column) ≡ Some true = ap (judged filter) (sym c.field.ensures) ∙ sym c.judge_field.ensures ∙ c.in-Some-true.is ∙ ap Some c.in-Some-true.field-0-test in
    goes_on plan row c.loop-i.i filter is c.loop-i.invariant inside said

pub returns : goal.returns
returns g c =
    let all : length c.args.plan.now.filters ≤ c.loop-i.i = rw (← c.filters-filter-items.ensures.filters) c.loop-i-test.false in
    sym (verdict_kept c.args.plan.now (g.F.RowFields.fields c.args.row.now) c.loop-i.i c.loop-i.invariant all)

use Rattle.std.proofs.Common.{◌≡◌, ◌∙◌, ◌<◌, true, false, get_or, length, not, sym, ap}
use Rattle.slow_model.proofs.Places.{position_here, position_later}
use Rattle.par_model.specs.Keep.{keeps}
use Rattle.par_model.specs.declared.plan.Filter.{Filter}
use Rattle.slow_model.proofs.slow.deciding.Goals as goal

pub returns-then-not-keeps_row : goal.returns-then-not-keeps_row
returns-then-not-keeps_row c =
    let filters = c.args.plan.now.filters in
    let filter = c.index-filters-at.result in
    let within : c.filters.at < length filters = rw (← c.filters-filters.ensures.filters) c.filters-test.true in
    let is : filter ≡ get_or filters c.filters.at filter = rw (← c.filters-filters.ensures.filters) c.index-filters-at.is in
    let fails : not (keeps (get_or filters c.filters.at filter) c.args.row.now) ≡ true = rw (← is) (ap not (sym c.keeps_row.ensures ∙ c.if-not-keeps_row.true)) in
    record {
      place = sym (c.filters.invariant ∙ position_here (λ (filter : Filter). not (keeps filter c.args.row.now)) filters c.filters.at c.filters.at filter within fails);
      within = within;
    }

pub filters-preserved : goal.filters-preserved
filters-preserved c =
    let filters = c.args.plan.now.filters in
    let filter = c.index-filters-at.result in
    let within : c.filters.at < length filters = rw (← c.filters-filters.ensures.filters) c.filters-test.true in
    let is : filter ≡ get_or filters c.filters.at filter = rw (← c.filters-filters.ensures.filters) c.index-filters-at.is in
    let holds : not (keeps (get_or filters c.filters.at filter) c.args.row.now) ≡ false = rw (← is) (ap not (sym c.keeps_row.ensures ∙ c.if-not-keeps_row.false)) in
    c.filters.invariant ∙ position_later (λ (filter : Filter). not (keeps filter c.args.row.now)) filters c.filters.at c.filters.at filter within holds

use Rattle.std.proofs.Common.{◌≡◌, ◌∙◌, ◌<◌, true, false, get_or, length, sym}
use Rattle.slow_model.proofs.Places.{position_here, position_later}
use Rattle.par_model.specs.PlanLayout.{unused}
use Rattle.par_model.specs.Refuse.{is_unreadable}
use Rattle.slow_model.proofs.slow.first_unreadable.Goals as goal

pub returns-then-is_unreadable : goal.returns-then-is_unreadable
returns-then-is_unreadable c =
    let items = c.args.plan.now.items in
    let within : c.items.at < length items = rw (← c.items-items.ensures.items) c.items-test.true in
    let passes : is_unreadable c.args.row.now (get_or items c.items.at unused) ≡ true = rw (← c.items-items.ensures.items) (cc c.is_unreadable.ensures) in
    sym (c.items.invariant ∙ position_here (is_unreadable c.args.row.now) items c.items.at c.items.at unused within passes)

pub items-preserved : goal.items-preserved
items-preserved c =
    let items = c.args.plan.now.items in
    let within : c.items.at < length items = rw (← c.items-items.ensures.items) c.items-test.true in
    let fails : is_unreadable c.args.row.now (get_or items c.items.at unused) ≡ false = rw (← c.items-items.ensures.items) (cc c.is_unreadable.ensures) in
    c.items.invariant ∙ position_later (is_unreadable c.args.row.now) items c.items.at c.items.at unused within fails

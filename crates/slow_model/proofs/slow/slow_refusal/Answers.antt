use Rattle.std.proofs.Common.{◌≡◌, ◌∙◌, ℕ, Option, true, false, length, nat_eq, sym, refl, Some, None, arith}
use Rattle.std.proofs.lemmas.Bool.Decides.{nat_tests}
use Rattle.slow_model.proofs.Refused.{at_filter, at_items, at_key, at_width}
use Rattle.slow_model.proofs.slow.slow_refusal.Goals as goal

none_is : (o : Option ℕ) → ((place : ℕ) → o ≡ Some place → ⊥) → o ≡ None
none_is None h = refl
none_is (Some place) h = absurd (h place refl)

pub returns-then-width : goal.returns-then-width
returns-then-width c =
    let other : nat_eq (length c.args.row.now) c.args.width ≡ false = grind (arith, nat_tests, c.width.ensures) in
    sym (at_width c.args.plan.now c.args.width c.args.row.now other)

pub returns-in-Some : goal.returns-in-Some
returns-in-Some c =
    let same : nat_eq (length c.args.row.now) c.args.width ≡ true = grind (arith, nat_tests, c.width.ensures) in
    c.refused_by.ensures ∙ sym (at_filter c.args.plan.now c.args.width c.args.row.now same c.in-Some.at (sym c.deciding.ensures.place ∙ c.in-Some.is))

pub returns-then-has_long_key : goal.returns-then-has_long_key
returns-then-has_long_key c =
    let same : nat_eq (length c.args.row.now) c.args.width ≡ true = grind (arith, nat_tests, c.width.ensures) in
    sym (at_key c.args.plan.now c.args.width c.args.row.now same (sym c.deciding.ensures.place ∙ none_is _ c.in_default.not-Some) (cc c.has_long_key.ensures))

pub returns-in_err-item : goal.returns-in_err-item
returns-in_err-item c =
    let same : nat_eq (length c.args.row.now) c.args.width ≡ true = grind (arith, nat_tests, c.width.ensures) in
    c.from_residual.ensures ∙ sym (at_items c.args.plan.now c.args.width c.args.row.now same (sym c.deciding.ensures.place ∙ none_is _ c.in_default.not-Some) (cc c.has_long_key.ensures) None (sym c.in_err-item.ensures))

pub returns : goal.returns
returns c =
    let same : nat_eq (length c.args.row.now) c.args.width ≡ true = grind (arith, nat_tests, c.width.ensures) in
    sym (at_items c.args.plan.now c.args.width c.args.row.now same (sym c.deciding.ensures.place ∙ none_is _ c.in_default.not-Some) (cc c.has_long_key.ensures) (Some c.in_ok-item.item) (sym c.in_ok-item.ensures))

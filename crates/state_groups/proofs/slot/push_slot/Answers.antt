use Rattle.std.proofs.Common.{◌≡◌, ◌∙◌, ℕ, List, OnOk, subst, sym}
use Rattle.state_groups.proofs.Slots.{pushed_with, pushed_without}
use Rattle.state_groups.proofs.slot.push_slot.Goals as goal

pub returns-then-has_integers : goal.returns-then-has_integers
returns-then-has_integers c =
    subst (λ (bs : List ℕ). OnOk c.push_integers.result (c.push_integers.new.out.items ≡ bs))
    (pushed_with c.args.integers c.args.slot.now c.args.out.now.items c.push_number.new.out.items c.from.result (sym c.has_integers.ensures ∙ c.if-has_integers.true) c.in_ok-push_number.ensures c.from.ensures)
    c.push_integers.ensures

pub returns-else-has_integers : goal.returns-else-has_integers
returns-else-has_integers c =
    pushed_without c.args.integers c.args.slot.now c.args.out.now.items c.push_number.new.out.items c.from.result (sym c.has_integers.ensures ∙ c.if-has_integers.false) c.in_ok-push_number.ensures c.from.ensures

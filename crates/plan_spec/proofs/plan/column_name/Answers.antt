use Rattle.std.proofs.Common.{◌≡◌, Some, None, suc, map, string_bytes, refl, arith}
use Rattle.plan_spec.proofs.ItemNames.{drop-none, drop-some}
use Rattle.plan_spec.proofs.plan.column_name.Goals.{in-None, in-Some-2}
use Rattle.plan_spec.proofs.plan.column_name.Goals as goal

pub items-preserved : goal.items-preserved
items-preserved c =
    let inv = c.items.invariant in
    let tail = map (λ f. f.column) c.args.filters.now in
    elim c.match-item.branch [
      | in-Some-2 w ↦
          let named : c.item-item.result.column ≡ Some (string_bytes w.in-Some.name) = rw (← c.item.view_is, w.in-Some.is) refl in
          let s = drop-some (λ i. i.column) c.args.items.now tail c.items.item-index c.item-item.result (string_bytes w.in-Some.name) c.items-test.true c.item-item.is named in
          let next : c.items.left ≡ suc c.match-item.left = omega (arith, w.left-is, w.if-left-eq0.false) in
          let within = rw (s, next) at inv.within in
          record { within = omega (arith, within); same = rw (s, next) at inv.same }
      | in-None w ↦
          let unnamed : c.item-item.result.column ≡ None = rw (← c.item.view_is, w.in-None.is) refl in
          let s = drop-none (λ i. i.column) c.args.items.now tail c.items.item-index c.item-item.result c.items-test.true c.item-item.is unnamed in
          record { within = rw (w.left-is, ← s) inv.within; same = rw (w.left-is, ← s) inv.same }
    ]

use Rattle.std.proofs.Common.{◌≡◌, ◌<◌, ◌∙◌, List, ℕ, ap, arith, drop, length, sym, take}
use Rattle.std.specs.Prelude.{◌&&◌}
use Rattle.table_form.specs.Number.{are_digits, is_whole}
use Rattle.table_form.proofs.Points.{drop-next, with-point, without-point}
use Rattle.table_form.proofs.number.is_unsigned.Goals as goal

pub returns-then-at-size : goal.returns-then-at-size
returns-then-at-size c =
    let size = c.args.size.now in
    let at = c.point_place-at.result in
    let end : at ≡ length size = omega (arith, c.if-at-size.true) in
    c.is_whole.ensures ∙ sym (without-point size at c.point_place-at.ensures.place end)

pub returns : goal.returns
returns c =
    let size = c.args.size.now in
    let at = c.point_place-at.result in
    let lt : at < length size = omega (arith, c.if-at-size.false, c.point_place-at.ensures.within) in
    c.is_pointed.ensures ∙ ap (λ (w : List ℕ). is_whole w && are_digits c.without_first.result.now) c.split_at.ensures.front
    ∙ ap (λ (p : List ℕ). is_whole (take at size) && are_digits p) (c.without_first.ensures ∙ ap (drop 1) c.split_at.ensures.back ∙ drop-next at size) ∙ sym (with-point size at c.point_place-at.ensures.place lt)

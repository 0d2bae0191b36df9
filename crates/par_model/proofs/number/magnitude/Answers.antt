use Rattle.std.proofs.Common.{◌≡◌, ◌∙◌, Some, None, sym, true}
use Rattle.std.specs.List.{after_first, before_first}
use Rattle.par_model.specs.Magnitude.{has_places}
use Rattle.par_model.specs.Number.{is_point}
use Rattle.par_model.proofs.Points.{all-none, all-some, front-none, read-after}
use Rattle.par_model.proofs.number.magnitude.Goals as goal

pub returns-in_err-front-clause-value : goal.returns-in_err-front-clause-value
returns-in_err-front-clause-value c =
    let ds = c.args.digits.now in
    let has : has_places c.args.places ds ≡ true = cc (c.has_places.ensures.places, c.if-not-has_places.false) in
    let value = rw c.split_point.ensures.whole at c.more_magnitude.ensures.value in
    let none : read-after 0 (before_first is_point ds) ≡ None = cc (value, c.in_err-front.is, c.in_err-front.was) in
    c.from_residual.ensures ∙ sym (front-none c.args.places ds has none)

pub returns-in_err-all-clause-value : goal.returns-in_err-all-clause-value
returns-in_err-all-clause-value c =
    let ds = c.args.digits.now in
    let has : has_places c.args.places ds ≡ true = cc (c.has_places.ensures.places, c.if-not-has_places.false) in
    let value = rw c.split_point.ensures.whole at c.more_magnitude.ensures.value in
    let front : read-after 0 (before_first is_point ds) ≡ Some c.in_ok-front.front = cc (value, c.in_ok-front.is, c.in_ok-front.was) in
    let value' = rw c.split_point.ensures.decimals at c.more_magnitude-2.ensures.value in
    let none : read-after c.in_ok-front.front (after_first is_point ds) ≡ None = cc (value', c.in_err-all.is, c.in_err-all.was) in
    c.from_residual-in_err-all.ensures ∙ sym (all-none c.args.places ds has c.in_ok-front.front front none)

pub returns-clause-value : goal.returns-clause-value
returns-clause-value c =
    let ds = c.args.digits.now in
    let has : has_places c.args.places ds ≡ true = cc (c.has_places.ensures.places, c.if-not-has_places.false) in
    let value = rw c.split_point.ensures.whole at c.more_magnitude.ensures.value in
    let front : read-after 0 (before_first is_point ds) ≡ Some c.in_ok-front.front = cc (value, c.in_ok-front.is, c.in_ok-front.was) in
    let value' = rw c.split_point.ensures.decimals at c.more_magnitude-2.ensures.value in
    let all : read-after c.in_ok-front.front (after_first is_point ds) ≡ Some c.in_ok-all.all = cc (value', c.in_ok-all.is, c.in_ok-all.was) in
    let zeros = rw c.split_point.ensures.decimals at c.with_zeros.ensures.value in
    zeros ∙ sym (all-some c.args.places ds has c.in_ok-front.front c.in_ok-all.all front all)

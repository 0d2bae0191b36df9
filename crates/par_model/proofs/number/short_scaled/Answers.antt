use Rattle.std.proofs.Common.{◌≡◌, ◌∙◌, ◌≤◌, ◌+◌, ◌-◌, None, Some, arith, drop, length, take, if◌then◌else◌}
use Rattle.std.proofs.lemmas.List.{length-drop, length-take}
use Rattle.std.specs.Char.{is_ascii_digit}
use Rattle.std.specs.List.{list_all}
use Rattle.std.specs.Prelude.{slice_index}
use Rattle.std.specs.Str.Parse.{digits_value_after}
use Rattle.par_model.proofs.Runs.{below, pow-some, pow-up}
use Rattle.par_model.proofs.ShortNumbers.{decimals-slice, scaled-value}
use Rattle.par_model.proofs.number.short_scaled.Goals as goal

pub more_short-requires-clause-small : goal.more_short-requires-clause-small
more_short-requires-clause-small c = pow-some _

pub more_short-requires-2-clause-small : goal.more_short-requires-2-clause-small
more_short-requires-2-clause-small c =
    let ds = c.args.digits.now in
    let at = length ds - 1 - c.args.places in
    let within = c.in_ok-whole.ensures.within 0 (omega arith) in
    let first = length-take at ds in
    let rest = length-drop (at + 1) ds in
    let last = length-take (length ds - (at + 1)) (drop (at + 1) ds) in
    let le : 0 + length (take at ds) ≤ 18 - length (take (length ds - (at + 1)) (drop (at + 1) ds)) = omega (arith, first, rest, last, c.if-digits.false, c.if-digits-lt2.false, c.if-digits-places.false) in
    omega (arith, within, pow-up _ _ le)

pub returns-clause-value : goal.returns-clause-value
returns-clause-value c =
    let ds = c.args.digits.now in
    let places = c.args.places in
    let long : places + 2 ≤ length ds = omega (arith, c.if-digits-lt2.false, c.if-digits-places.false) in
    let short : length ds ≤ 19 = omega (arith, c.if-digits.false) in
    let point : slice_index ds (length ds - 1 - places) ≡ 46 = omega (arith, c.if-digits-at-ne46.false) in
    let front : (if list_all is_ascii_digit (take (length ds - 1 - places) ds) then Some (digits_value_after 10 0 (take (length ds - 1 - places) ds)) else None) ≡ Some c.in_ok-whole.whole =
    cc (c.more_short.ensures.value, c.in_ok-whole.is, c.in_ok-whole.was) in
    (rw (decimals-slice places ds long) at c.more_short-2.ensures.value) ∙ scaled-value places ds c.in_ok-whole.whole long short point front

pub returns-clause-within : goal.returns-clause-within
returns-clause-within c =
    let ds = c.args.digits.now in
    let at = length ds - 1 - c.args.places in
    let first = length-take at ds in
    let rest = length-drop (at + 1) ds in
    let last = length-take (length ds - (at + 1)) (drop (at + 1) ds) in
    let within = c.in_ok-whole.ensures.within 0 (omega arith) in
    below _ c.more_short-2.result (omega (arith, first, rest, last, c.if-digits.false, c.if-digits-lt2.false, c.if-digits-places.false)) (c.more_short-2.ensures.within (0 + length (take at ds)) within)

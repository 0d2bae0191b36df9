use Rattle.std.proofs.Common.{◌∙◌, ◌+◌, ◌-◌, ap, arith, drop, length, sym, take}
use Rattle.std.proofs.lemmas.List.{drop_all, length-drop, take_all}
use Rattle.std.specs.List.{position_or_len}
use Rattle.par_model.specs.Number.{is_point}
use Rattle.par_model.proofs.number.split_point.Goals as goal

pub returns-then-at-digits-clause-whole : goal.returns-then-at-digits-clause-whole
returns-then-at-digits-clause-whole c = sym (take_all (position_or_len is_point c.args.digits.now) c.args.digits.now (omega (arith, c.point_place-at.ensures.place, c.if-at-digits.true)))

pub returns-then-at-digits-clause-decimals : goal.returns-then-at-digits-clause-decimals
returns-then-at-digits-clause-decimals c = sym (drop_all (position_or_len is_point c.args.digits.now + 1) c.args.digits.now (omega (arith, c.point_place-at.ensures.place, c.if-at-digits.true)))

pub returns-clause-whole : goal.returns-clause-whole
returns-clause-whole c = ap (λ n. take n c.args.digits.now) c.point_place-at.ensures.place

pub returns-clause-decimals : goal.returns-clause-decimals
returns-clause-decimals c =
    let at = c.point_place-at.result in
    take_all (length c.args.digits.now - (at + 1)) (drop (at + 1) c.args.digits.now) (omega (arith, length-drop (at + 1) c.args.digits.now))
    ∙ ap (λ n. drop (n + 1) c.args.digits.now) c.point_place-at.ensures.place

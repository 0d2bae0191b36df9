use Rattle.std.proofs.Common.{◌≡◌, ◌<◌, length, sym, ◌∙◌, arith, rules}
use Rattle.std.proofs.lemmas.Grind.{common_steps}
use Rattle.csv_rows.proofs.Scans.{others-last, place-empty}
use Rattle.csv_rows.proofs.place.past_others.Goals as goal

pub returns-then-is_empty : goal.returns-then-is_empty
returns-then-is_empty c =
    let none : length c.args.bytes.now ≡ 0 = search rules in
    sym (place-empty c.args.start c.args.bytes.now none)

pub returns : goal.returns
returns c =
    let some : 0 < length c.args.bytes.now = grind (arith, common_steps, c.if-is_empty.false) in
    c.past_other.ensures ∙ sym (others-last c.args.start c.args.bytes.now c.requires some)

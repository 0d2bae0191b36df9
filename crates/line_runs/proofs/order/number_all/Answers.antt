use Rattle.std.proofs.Common.{◌<◌, ◌∙◌, ℕ, All, List, ap, arith, get_or, length, map, refl, subst, sym, take}
use Rattle.std.proofs.lemmas.List.{set-get_or, take_all, take_more_set}
use Rattle.std.proofs.lemmas.List.Elements.{All-nil, All-push}
use Rattle.line_runs.specs.Order.{IsNumberOf, IsNumbered, place_of}
use Rattle.line_runs.specs.declared.order.LineRef.{LineRef}
use Rattle.line_runs.proofs.Places.{places_all, places_next}
use Rattle.line_runs.proofs.order.number_all.Goals as goal

abbrev none : LineRef
none = record { number = 0; run = 0; at = 0 }

pub loop-line-init : goal.loop-line-init
loop-line-init c = record { places = refl; rest = refl; numbers = All-nil (IsNumbered c.args.shared.now c.args.runs.now) }

pub loop-line-preserved : goal.loop-line-preserved
loop-line-preserved c =
    let s = c.args.shared.now in
    let runs = c.args.runs.now in
    let inv = c.loop-line.invariant in
    let ys = c.loop-line.lines in
    let i = c.loop-line.line-index in
    let lt : i < length ys = omega (arith, c.loop-line-test.true, c.loop-line.auto.lines) in
    let x : LineRef = get_or ys i none in
    let y : LineRef = record { number = c.in-Some.number; run = x.run; at = x.at } in
    let next = places_next c.args.lines.now ys i none x y lt refl inv.rest inv.places refl in
    let own : IsNumbered s runs y = subst (λ (key : List ℕ). IsNumberOf s key c.in-Some.number) c.key.ensures c.in-Some.ensures in
    record {
      places = next.0;
      rest = next.1;
      numbers = subst (All (IsNumbered s runs)) (sym (take_more_set ys i y lt)) (All-push (IsNumbered s runs) (take i ys) y inv.numbers own);
    }

-- a key without a number: the lines have their places still
pub returns-in-None-clause-same : goal.returns-in-None-clause-same
returns-in-None-clause-same c =
    ap (map place_of) (set-get_or c.loop-line.lines c.loop-line.line-index none) ∙ places_all c.args.lines.now c.loop-line.lines c.loop-line.line-index c.loop-line.invariant.rest c.loop-line.invariant.places

pub returns-clause-same : goal.returns-clause-same
returns-clause-same c = places_all c.args.lines.now c.loop-line.lines c.loop-line.line-index c.loop-line.invariant.rest c.loop-line.invariant.places

pub returns-clause-numbers : goal.returns-clause-numbers
returns-clause-numbers c =
    subst (All (IsNumbered c.args.shared.now c.args.runs.now)) (take_all c.loop-line.line-index c.loop-line.lines (omega (arith, c.loop-line-test.false, c.loop-line.auto.lines))) c.loop-line.invariant.numbers

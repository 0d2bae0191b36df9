use Rattle.std.proofs.Common.{◌≡◌, ◌≤◌, ◌∙◌, ℕ, List, ap, arith, drop, length, rules, sym}
use Rattle.std.proofs.Math.Seq.{drop-length}
use Rattle.std.proofs.lemmas.Bool.{cond-false, cond-true}
use Rattle.par_model.specs.declared.plan.Item.{Item}
use Rattle.state_lanes.specs.Lanes.{first_of}
use Rattle.state_lanes.proofs.Loops.{first_of_at}
use Rattle.state_lanes.proofs.slots.first_of.Goals as goal

pub returns-then-is_of : goal.returns-then-is_of
returns-then-is_of c =
    let eight : length c.args.slots.now ≡ 8 = search rules in
    let room : length c.args.items.now ≤ length c.args.slots.now = omega (arith, eight, c.requires) in
    sym (sym c.loop-at.invariant ∙ first_of_at c.args.items.now c.args.slots.now c.loop-at.at _ c.args.lane c.loop-at-test.true room ∙ cond-true _ _ _ (sym c.is_of.ensures ∙ c.if-is_of.true))

pub loop-at-preserved : goal.loop-at-preserved
loop-at-preserved c =
    let eight : length c.args.slots.now ≡ 8 = search rules in
    let room : length c.args.items.now ≤ length c.args.slots.now = omega (arith, eight, c.requires) in
    sym (first_of_at c.args.items.now c.args.slots.now c.loop-at.at _ c.args.lane c.loop-at-test.true room ∙ cond-false _ _ _ (sym c.is_of.ensures ∙ c.if-is_of.false)) ∙ c.loop-at.invariant

pub returns : goal.returns
returns c =
    let items = c.args.items.now in
    let slots = c.args.slots.now in
    let end : c.loop-at.at ≡ length items = omega arith in
    sym (ap (λ (n : ℕ). first_of (drop n items) (drop c.loop-at.at slots) c.args.lane) end ∙ ap (λ (is : List Item). first_of is (drop c.loop-at.at slots) c.args.lane) (drop-length items)) ∙ c.loop-at.invariant

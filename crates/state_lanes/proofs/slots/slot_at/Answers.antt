use Rattle.std.proofs.Common.{◌≡◌, ◌∙◌, ℕ, List, ap, arith, drop, length, sym}
use Rattle.std.proofs.Math.Seq.{drop-length}
use Rattle.std.proofs.lemmas.Bool.{cond-false, cond-true}
use Rattle.state_lanes.specs.Lanes.{slot_at}
use Rattle.state_lanes.specs.declared.lanes.Lane.{Lane}
use Rattle.state_lanes.proofs.Loops.{slot_at_at}
use Rattle.state_lanes.proofs.slots.slot_at.Goals as goal

pub returns-then-is_same : goal.returns-then-is_same
returns-then-is_same c =
    sym (sym c.loop-at.invariant ∙ slot_at_at c.args.lanes.now c.args.slots.now c.loop-at.at _ c.args.lane c.loop-at-test.true c.requires ∙ cond-true _ _ _ (sym c.is_same.ensures ∙ c.if-is_same.true))

pub loop-at-preserved : goal.loop-at-preserved
loop-at-preserved c =
    sym (slot_at_at c.args.lanes.now c.args.slots.now c.loop-at.at _ c.args.lane c.loop-at-test.true c.requires ∙ cond-false _ _ _ (sym c.is_same.ensures ∙ c.if-is_same.false)) ∙ c.loop-at.invariant

pub returns : goal.returns
returns c =
    let lanes = c.args.lanes.now in
    let slots = c.args.slots.now in
    let end : c.loop-at.at ≡ length lanes = omega arith in
    sym (ap (λ (n : ℕ). slot_at (drop n lanes) (drop c.loop-at.at slots) c.args.lane) end ∙ ap (λ (ls : List Lane). slot_at ls (drop c.loop-at.at slots) c.args.lane) (drop-length lanes)) ∙ c.loop-at.invariant

use Rattle.std.proofs.Common.{◌≡◌, ◌+◌, ◌||◌, ◌∙◌, ℕ, Bool, List, ap, arith, drop, length, sym}
use Rattle.std.proofs.Math.Seq.{drop-length}
use Rattle.state_lanes.specs.Lanes.{has_lane}
use Rattle.state_lanes.specs.declared.lanes.Lane.{Lane}
use Rattle.state_lanes.proofs.Among.{or_left}
use Rattle.state_lanes.proofs.Loops.{has_at}
use Rattle.state_lanes.proofs.lanes.has_lane.Goals as goal

pub returns-then-is_same : goal.returns-then-is_same
returns-then-is_same c = sym (sym c.loop-at.invariant ∙ has_at c.args.lanes.now c.loop-at.at _ c.args.lane c.loop-at-test.true ∙ or_left _ _ (sym c.is_same.ensures ∙ c.if-is_same.true))

pub loop-at-preserved : goal.loop-at-preserved
loop-at-preserved c =
    let lanes = c.args.lanes.now in
    let lane = c.args.lane in
    let at = c.loop-at.at in
    sym (has_at lanes at _ lane c.loop-at-test.true ∙ ap (λ (b : Bool). b || has_lane (drop (at + 1) lanes) lane) (sym c.is_same.ensures ∙ c.if-is_same.false)) ∙ c.loop-at.invariant

pub returns : goal.returns
returns c =
    let lanes = c.args.lanes.now in
    let end : c.loop-at.at ≡ length lanes = omega arith in
    sym (ap (λ (n : ℕ). has_lane (drop n lanes) c.args.lane) end ∙ ap (λ (ls : List Lane). has_lane ls c.args.lane) (drop-length lanes)) ∙ c.loop-at.invariant

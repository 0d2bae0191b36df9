use Rattle.std.proofs.Common.{◌≡◌, ◌∙◌, ℕ, arith, sym, ap, get_or, length-set, map, take}
use Rattle.par_model.specs.Aggregate.{no_values}
use Rattle.partial_agg.proofs.Lanes.{length-lanes_of, map_step}
use Rattle.partial_agg.proofs.layout.Layout.lanes.Goals as goal

pub loop-lane-preserved : goal.loop-lane-preserved
loop-lane-preserved c = record {
  long = length-set c.loop-lane.lanes c.loop-lane.lane c.slot_at.result ∙ c.loop-lane.invariant.long;
  done = map_step (λ (at : ℕ). get_or c.args.slots.now at no_values) c.args.self.now.kept c.loop-lane.lanes c.loop-lane.lane 0 c.slot_at.result (omega arith) (omega (arith, c.loop-lane.invariant.long)) c.loop-lane.invariant.done c.slot_at.ensures;
}

pub returns-clause-lanes : goal.returns-clause-lanes
returns-clause-lanes c =
    let all : c.loop-lane.lane ≡ c.args.self.now.width = omega arith in
    ap (λ (n : ℕ). take n c.loop-lane.lanes) (sym all)
    ∙ c.loop-lane.invariant.done
    ∙ ap (λ (n : ℕ). map (λ (at : ℕ). get_or c.args.slots.now at no_values) (take n c.args.self.now.kept)) all

pub returns-clause-width : goal.returns-clause-width
returns-clause-width c = length-lanes_of c.args.self.now c.args.slots.now (omega arith) (omega arith)

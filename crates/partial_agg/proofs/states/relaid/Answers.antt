use Rattle.std.proofs.Common.{◌≡◌, ◌∙◌, ℕ, List, ap, sym, arith, length, take}
use Rattle.std.proofs.lemmas.List.{take_all}
use Rattle.par_model.specs.declared.state.SlotState.{SlotState}
use Rattle.partial_agg.specs.Lanes.{lanes_of, slots_in, states_in}
use Rattle.partial_agg.proofs.Lanes.{length-states_in, relaid_more}
use Rattle.partial_agg.proofs.states.relaid.Goals as goal

pub loop-at-preserved : goal.loop-at-preserved
loop-at-preserved c =
    let new = c.args.new.now in
    let more : take c.width.result c.lanes.result ≡ lanes_of new c.expand-slots.result = ap (λ (n : ℕ). take n c.lanes.result) c.width.ensures.width ∙ c.lanes.ensures.lanes in
    let step = relaid_more c.args.old.now new c.args.rows.now c.args.lanes.now c.loop-at.relaid.items c.extend_from_slice.new.self.items (take c.width.result c.lanes.result) c.expand-slots.result c.loop-at.at c.width-width.result
    c.loop-at-test.true c.width-width.ensures.width (c.expand-slots.ensures ∙ ap (slots_in c.args.old.now.parts) c.lanes_at.ensures) (c.fits.ensures.0 c.if-not-fits.false)
    more (ap (length {A = SlotState}) more ∙ c.lanes.ensures.width) c.loop-at.invariant.whole c.loop-at.invariant.same c.in_ok-extend_from_slice.ensures.items in
    record { whole = step.0; same = step.1 }

pub returns-clause-same : goal.returns-clause-same
returns-clause-same c =
    let states = states_in c.args.old.now c.args.rows.now c.args.lanes.now in
    sym (ap (λ (rows : List ℕ). states_in c.args.new.now rows c.loop-at.relaid.items) (take_all c.loop-at.at c.args.rows.now (omega arith)))
    ∙ c.loop-at.invariant.same
    ∙ take_all c.loop-at.at states (omega (arith, length-states_in c.args.old.now c.args.rows.now c.args.lanes.now))

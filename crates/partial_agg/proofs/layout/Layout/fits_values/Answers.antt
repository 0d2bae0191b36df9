use Rattle.std.proofs.Common.{◌-◌, ◌∙◌, List, arith, sym, ap, length}
use Rattle.std.proofs.lemmas.List.{take_all}
use Rattle.par_model.specs.Aggregate.{no_values}
use Rattle.partial_agg.specs.Lanes.{lanes_of, slots_in}
use Rattle.partial_agg.specs.Values.{slot_of_value, values_state}
use Rattle.partial_agg.specs.declared.layout.SlotPart.{SlotPart}
use Rattle.partial_agg.proofs.Lanes.{told_more}
use Rattle.partial_agg.proofs.Slots.{get_or-slots, length-slots}
use Rattle.partial_agg.proofs.layout.Layout.fits_values.Goals as goal

pub loop-at-preserved : goal.loop-at-preserved
loop-at-preserved c =
    let slots = (values_state c.args.values.now).slots in
    told_more c.args.self.now.parts (lanes_of c.args.self.now slots) slots c.loop-at.at _ no_values (omega arith) (omega (arith, length-slots c.args.values.now c.requires)) c.loop-at.invariant
    (c.tells.ensures c.if-not-tells.false
    ∙ ap slot_of_value c.value_at.ensures
    ∙ sym (get_or-slots c.args.values.now (8 - length c.args.values.now) c.loop-at.at))

pub returns : goal.returns
returns c = λ t.
    sym (ap (λ (parts : List SlotPart). slots_in parts (lanes_of c.args.self.now (values_state c.args.values.now).slots)) (take_all c.loop-at.at c.args.self.now.parts (omega arith)))
    ∙ c.loop-at.invariant
    ∙ take_all c.loop-at.at (values_state c.args.values.now).slots (omega (arith, length-slots c.args.values.now c.requires))

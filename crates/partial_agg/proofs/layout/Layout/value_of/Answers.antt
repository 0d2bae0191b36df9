use Rattle.std.proofs.Common.{◌-◌, ◌∙◌, arith, sym, ap, length}
use Rattle.partial_agg.specs.Values.{slot_of_value, values_state}
use Rattle.partial_agg.proofs.Lanes.{get-lanes_of}
use Rattle.partial_agg.proofs.Slots.{get_or-slots}
use Rattle.partial_agg.proofs.layout.Layout.value_of.Goals as goal

pub returns-then-lane-self : goal.returns-then-lane-self
returns-then-lane-self c =
    ap slot_of_value c.value_at.ensures
    ∙ sym (get_or-slots c.args.values.now (8 - length c.args.values.now) _)
    ∙ sym (get-lanes_of c.args.self.now (values_state c.args.values.now).slots c.args.lane _ (omega arith) (omega arith))

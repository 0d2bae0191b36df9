use Rattle.std.proofs.Common.{◌∙◌, arith, sym, ap, length-set}
use Rattle.std.proofs.lemmas.List.{take_all}
use Rattle.partial_agg.specs.Lanes.{slot_in, slots_in}
use Rattle.partial_agg.specs.declared.layout.SlotPart.{SlotPart}
use Rattle.std.proofs.Common.{List}
use Rattle.partial_agg.proofs.Lanes.{map_step}
use Rattle.partial_agg.proofs.layout.Layout.expand.Goals as goal

pub loop-at-preserved : goal.loop-at-preserved
loop-at-preserved c = record {
  long = length-set c.loop-at.slots c.loop-at.at c.slot_in.result ∙ c.loop-at.invariant.long;
  done = map_step (slot_in c.args.lanes.now) c.args.self.now.parts c.loop-at.slots c.loop-at.at _ c.slot_in.result (omega arith) (omega (arith, c.loop-at.invariant.long)) c.loop-at.invariant.done c.slot_in.ensures;
}

pub returns : goal.returns
returns c =
    sym (take_all c.loop-at.at c.loop-at.slots (omega (arith, c.loop-at.invariant.long)))
    ∙ c.loop-at.invariant.done
    ∙ ap (λ (parts : List SlotPart). slots_in parts c.args.lanes.now) (take_all c.loop-at.at c.args.self.now.parts (omega arith))

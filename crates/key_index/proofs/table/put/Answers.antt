use Rattle.std.proofs.Common.{◌≡◌, ◌∙◌, ap, sym, rules, arith, length}
use Rattle.key_index.specs.declared.table.Slot.{Slot}
use Rattle.key_index.proofs.Index.{more_steps, slot_read}
use Rattle.key_index.proofs.table.put.Goals as goal

pub loop-step-preserved : goal.loop-step-preserved
loop-step-preserved c =
    let slots = c.loop-step.slots.items in
    let first : c.len-size.result ≡ length c.args.slots.now.items = search rules in
    let size : c.len-size.result ≡ length slots = first ∙ sym (ap (length {A = Slot}) c.loop-step.invariant.0) in
    let read = slot_read slots c.len-size.result c.args.hash c.probe-at.result c.loop-step.step c.index.result.now size c.probe-at.ensures.place c.probe-at.ensures.within c.index.ensures in
    (c.loop-step.invariant.0, more_steps c.loop-step.step c.loop-step.invariant.1 (rw read (omega (arith, c.if-index-eq0.false))))

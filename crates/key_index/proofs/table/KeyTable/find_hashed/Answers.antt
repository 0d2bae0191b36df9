use Rattle.std.proofs.Common.{◌≡◌, ◌/◌, ◌^◌, ◌∙◌, Option, None, Some, IfNone, false, true, ap, sym, rules, arith, length}
use Rattle.key_index.specs.Index.{hash, probe, reach}
use Rattle.key_index.proofs.Index.{absent, misses, more_steps, not_reached_all, not_reached_free, slot_read}
use Rattle.key_index.proofs.table.KeyTable.find_hashed.Goals as goal
use Rattle.key_index.proofs.table.KeyTable.find_hashed.Goals.{else-slot-tag-via-then-slot-tag+else-is-2, else-slot-tag-via-else-slot-tag}

no_true : false ≡ true → ⊥
no_true e = cc

if_none : {A P Q : Type 0} (o : Option A) → (P → Q) → IfNone o P → IfNone o Q
if_none None f h = f h
if_none (Some a) f h = h

pub returns-then-slot-eq0-clause-absent : goal.returns-then-slot-eq0-clause-absent
returns-then-slot-eq0-clause-absent c =
    let slots = c.self.inside.slots.items in
    let key = c.args.key.now in
    let size : c.len-size.result ≡ length slots = search rules in
    let read = slot_read slots c.len-size.result (hash key) c.probe.result c.loop-step.step c.index-slot.result.now size (c.probe.ensures.place ∙ ap (λ h. probe c.len-size.result h c.loop-step.step) c.requires) c.probe.ensures.within c.index-slot.ensures in
    if_none c.find_late.result (λ not_late place e.
    absent slots c.self.inside.late c.self.inside.keys key c.self.invariant
    (λ p there r. not_reached_free slots c.self.inside.keys key c.loop-step.step p c.loop-step.invariant (rw read c.if-slot-eq0.true) there r) not_late place (rw c.self.view_is e))
    c.find_late.ensures.absent

pub loop-step-preserved : goal.loop-step-preserved
loop-step-preserved c =
    let slots = c.self.inside.slots.items in
    let size : c.len-size.result ≡ length slots = search rules in
    let read = slot_read slots c.len-size.result (hash c.args.key.now) c.probe.result c.loop-step.step c.index-slot.result.now size (c.probe.ensures.place ∙ ap (λ h. probe c.len-size.result h c.loop-step.step) c.requires) c.probe.ensures.within c.index-slot.ensures in
    more_steps c.loop-step.step c.loop-step.invariant (misses slots c.self.inside.keys c.args.key.now c.loop-step.step c.index-slot.result.now read c.if-slot-eq0.false (λ tag e. elim c.else-slot-tag.branch [
      | else-slot-tag-via-then-slot-tag+else-is-2 w ↦ no_true (rw w.if-is-2.false at (w.is-then-slot-tag.ensures.1 e))
      | else-slot-tag-via-else-slot-tag w ↦ w.if-slot-tag.false (tag ∙ ap (λ h. h / 2 ^ 32) (sym c.requires))
    ]))

pub returns-clause-absent : goal.returns-clause-absent
returns-clause-absent c =
    let slots = c.self.inside.slots.items in
    let key = c.args.key.now in
    let size : c.len-size.result ≡ length slots = search rules in
    if_none c.find_late-2.result (λ not_late place e.
    absent slots c.self.inside.late c.self.inside.keys key c.self.invariant
    (λ p there r. not_reached_all slots c.self.inside.keys key p (λ s lt. c.loop-step.invariant s (omega (arith, lt, c.reach-step-end.ensures.reach, ap reach size, c.loop-step-test.false))) there r) not_late place (rw c.self.view_is e))
    c.find_late-2.ensures.absent

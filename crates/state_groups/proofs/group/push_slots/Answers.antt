use Rattle.std.proofs.Common.{◌≡◌, ◌++◌, ◌∙◌, ℕ, Bool, List, append-nil, ap, arith, length, sym, take}
use Rattle.std.proofs.Math.Seq.{take-length}
use Rattle.state_groups.specs.Group.{slots_bytes}
use Rattle.state_groups.proofs.Places.{slots_bytes-take, written_to}
use Rattle.state_groups.proofs.group.push_slots.Goals as goal

pub loop-at-init : goal.loop-at-init
unfolding slots_bytes
loop-at-init c = sym (append-nil c.args.out.now.items)

pub loop-at-preserved : goal.loop-at-preserved
loop-at-preserved c =
    c.in_ok-push_slot.ensures ∙ written_to c.args.kinds.now c.args.slots.now c.loop-at.at c.args.out.now.items c.loop-at.out.items c.loop-at-test.true c.requires c.loop-at.invariant

pub returns : goal.returns
returns c =
    let kinds = c.args.kinds.now in
    let slots = c.args.slots.now in
    let out = c.args.out.now.items in
    let end : c.loop-at.at ≡ length kinds = omega arith in
    c.loop-at.invariant ∙ ap (λ (n : ℕ). out ++ slots_bytes (take n kinds) (take n slots)) end
    ∙ ap (λ (ks : List Bool). out ++ slots_bytes ks (take (length kinds) slots)) (take-length kinds) ∙ ap (λ (bs : List ℕ). out ++ bs) (slots_bytes-take kinds slots)

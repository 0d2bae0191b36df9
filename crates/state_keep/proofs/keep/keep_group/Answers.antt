use Rattle.std.proofs.Common.{◌≡◌, ◌∙◌, ℕ, List, ap, arith, length, length-append, take}
use Rattle.par_model.specs.declared.state.AggState.{AggState}
use Rattle.par_model.specs.declared.state.SlotState.{SlotState}
use Rattle.state_blocks.specs.Blocks.{tuple_bytes}
use Rattle.state_blocks.proofs.Tuples.{made_of, tuple_read, tuple_some, tuple_written}
use Rattle.state_lanes.specs.Lanes.{item_slots}
use Rattle.state_whole.specs.Adding.{kept_with, state_of}
use Rattle.state_keep.proofs.keep.keep_group.Goals as goal

-- no group is read where one was written
pub returns-in_default-clause-kept : goal.returns-in_default-clause-kept
returns-in_default-clause-kept c = λ g rest is e.
    absurd (c.in_default.ensures.written g.key g.rows g.slots rest is (tuple_written c.args.shape.now.kinds.now c.args.bytes.now rest g e))

pub returns-in-Ok-clause-kept : goal.returns-in-Ok-clause-kept
returns-in-Ok-clause-kept c = λ g rest is e.
    let shape = c.args.shape.now in
    let kinds = shape.kinds.now in
    let same = c.in-Some.ensures.written g.key g.rows g.slots rest is (tuple_written kinds c.args.bytes.now rest g e) in
    let state : AggState = record { rows = c.read_group.new.state.rows; slots = item_slots shape.lanes.now (take (length kinds) c.read_group.new.state.slots) shape.items.now } in
    let slots : item_slots shape.lanes.now (take (length shape.kinds.now) c.read_group.new.state.slots) shape.items.now ≡ item_slots shape.lanes.now g.slots shape.items.now = ap (λ (ss : List SlotState). item_slots shape.lanes.now ss shape.items.now) same.3 in
    let made : state ≡ state_of shape g = (λ i. record { rows = same.2 i; slots = slots i }) in
    (same.1, c.in-Ok.ensures ∙ ap (λ (k : List ℕ). kept_with c.args.kept c.args.map.now k state) same.0 ∙ ap (λ (s : AggState). kept_with c.args.kept c.args.map.now g.key s) made)

pub returns-in-Ok-clause-shorter : goal.returns-in-Ok-clause-shorter
returns-in-Ok-clause-shorter c =
    let kinds = c.args.shape.now.kinds.now in
    let g = made_of c.in-Some.key.now c.read_group.new.state.rows (take (length kinds) c.read_group.new.state.slots) in
    let some = tuple_some kinds g in
    let read = tuple_read kinds c.args.bytes.now g.key c.in-Some.rest.now g.rows g.slots c.in-Some.ensures.read.0 in
    omega (arith, some, ap length read, length-append (tuple_bytes kinds g) c.in-Some.rest.now)

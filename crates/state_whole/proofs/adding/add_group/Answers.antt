use Rattle.std.proofs.Common.{◌≡◌, ◌+◌, ◌++◌, ◌∙◌, ◌∷◌, [], ℕ, List, ap, arith, length, length-append, map, refl, subst, sym, take}
use Rattle.std.proofs.lemmas.Result.{err_from_is_err_and}
use Rattle.par_model.specs.declared.state.AggState.{AggState}
use Rattle.par_model.specs.declared.state.SlotState.{SlotState}
use Rattle.state_blocks.specs.Blocks.{tuple_bytes}
use Rattle.state_blocks.proofs.Tuples.{made_of, tuple_read, tuple_some, tuple_written}
use Rattle.state_lanes.specs.Lanes.{item_slots}
use Rattle.state_order.specs.Order.{HasKeys}
use Rattle.state_whole.specs.Adding.{kept_with, key_of, state_of}
use Rattle.state_whole.proofs.Adds.{added_more, key_none}
use Rattle.state_whole.proofs.adding.add_group.Goals as goal

-- no group is read where one was written
pub returns-in_default-clause-added : goal.returns-in_default-clause-added
returns-in_default-clause-added c = λ start range groups g rest has is e.
    absurd (c.in_default.ensures.written g.key g.rows g.slots rest is (tuple_written c.args.shape.now.kinds.now c.args.bytes.now rest g e))

-- the key that is read is that of the group
pub returns-in_err-next_key-clause-added : goal.returns-in_err-next_key-clause-added
returns-in_err-next_key-clause-added c =
    let shape = c.args.shape.now in
    let why = err_from_is_err_and c.from_residual.result c.from_residual.ensures.1 in
    rw (why.1, why.2) (λ start range groups g rest has is e.
    let same = c.in-Some.ensures.written g.key g.rows g.slots rest is (tuple_written shape.kinds.now c.args.bytes.now rest g e) in
    key_none shape range groups g (c.args.count.now.groups + 1) (ap (λ (n : ℕ). n + 1) has.many) c.in_err-next_key.field-0.0
    (rw (sym same.0) (c.in_err-next_key.ensures shape.columns range (map key_of groups) has.keys)))

pub returns-clause-added : goal.returns-clause-added
returns-clause-added c = λ start range groups g rest has is e.
    let shape = c.args.shape.now in
    let same = c.in-Some.ensures.written g.key g.rows g.slots rest is (tuple_written shape.kinds.now c.args.bytes.now rest g e) in
    let kinds = shape.kinds.now in
    let state : AggState = record { rows = c.read_group.new.state.rows; slots = item_slots shape.lanes.now (take (length kinds) c.read_group.new.state.slots) shape.items.now } in
    let slots : item_slots shape.lanes.now (take (length shape.kinds.now) c.read_group.new.state.slots) shape.items.now ≡ item_slots shape.lanes.now g.slots shape.items.now = ap (λ (ss : List SlotState). item_slots shape.lanes.now ss shape.items.now) same.3 in
    let made : state ≡ state_of shape g = (λ i. record { rows = same.2 i; slots = slots i }) in
    let sum = c.in-Ok.ensures ∙ ap (λ (k : List ℕ). kept_with c.args.kept c.args.map.now k state) same.0 ∙ ap (λ (s : AggState). kept_with c.args.kept c.args.map.now g.key s) made in
    let next = subst (λ (k : List ℕ). HasKeys shape.columns range (map key_of groups ++ k ∷ []) c.next_key.new.order) same.0 (c.in_ok-next_key.ensures shape.columns range (map key_of groups) has.keys) in
    (same.1, added_more shape c.args.kept range start groups g c.args.map.now c.keep.new.map c.args.order.now c.next_key.new.order c.args.count.now _ has sum next refl (omega (arith, c.larger-count.ensures.first)) (omega (arith, c.larger-count.ensures.second, same.2)))

pub returns-clause-shorter : goal.returns-clause-shorter
returns-clause-shorter c =
    let kinds = c.args.shape.now.kinds.now in
    let g = made_of c.in-Some.key.now c.read_group.new.state.rows (take (length kinds) c.read_group.new.state.slots) in
    let some = tuple_some kinds g in
    let read = tuple_read kinds c.args.bytes.now g.key c.in-Some.rest.now g.rows g.slots c.in-Some.ensures.read.0 in
    omega (arith, some, ap length read, length-append (tuple_bytes kinds g) c.in-Some.rest.now)

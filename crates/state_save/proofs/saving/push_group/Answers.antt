use Rattle.std.proofs.Common.{◌≡◌, ◌≤◌, ◌++◌, ◌∙◌, ◌∷◌, [], List, ap, arith, length, length-take, map, subst, sym, take}
use Rattle.std.proofs.lemmas.List.{length-map}
use Rattle.std.proofs.lemmas.Option.{get_or_from_slice_get}
use Rattle.std.proofs.lemmas.Result.{on_ok_weaker}
use Rattle.par_model.specs.declared.state.AggState.{AggState}
use Rattle.par_model.specs.declared.state.SlotState.{SlotState}
use Rattle.partial_agg.specs.State.{empty_state}
use Rattle.partial_agg.specs.declared.groups.Group.{Group as MapGroup}
use Rattle.result_text.specs.GroupOrder.{group_of, state_in}
use Rattle.result_text.specs.declared.order.GroupRef.{GroupRef}
use Rattle.state_blocks.specs.Blocks.{Group}
use Rattle.state_lanes.specs.Lanes.{has_numbers, lane_slots}
use Rattle.state_save.specs.Saving.{tuple_of}
use Rattle.state_whole.specs.Adding.{IsShape}
use Rattle.state_whole.specs.declared.adding.Shape.{Shape}
use Rattle.state_writer.specs.Writing.{FitInBlocks, Goes}
use Rattle.state_writer.specs.Writing as writing
use Rattle.state_save.proofs.saving.push_group.Goals as goal

-- the group that is taken is the tuple of this one
same_tuple : (shape : Shape) (groups : List MapGroup) (ref : GroupRef) (state : AggState) (slots : List SlotState) → state_in groups ref ≡ state → slots ≡ lane_slots shape.lanes.now shape.items.now state.slots
    → writing.group_of ref.key.now state.rows slots ≡ tuple_of shape (group_of groups ref)
same_tuple shape groups ref state slots is are =
    ap (λ (ss : List SlotState). writing.group_of ref.key.now state.rows ss) are ∙ ap (λ (s : AggState). writing.group_of ref.key.now s.rows (lane_slots shape.lanes.now shape.items.now s.slots)) (sym is)

-- there is a slot for each kind
enough : (shape : Shape) (found : List SlotState) → IsShape shape → length found ≡ 8 → length shape.kinds.now ≤ length (take (length shape.lanes.now) found)
enough shape found is eight =
    let few = is.lanes in
    omega (arith, few, eight, ap length is.kinds, length-map shape.lanes.now has_numbers, length-take (length shape.lanes.now) found)

pub push-requires : goal.push-requires
push-requires c = enough c.args.shape.now c.lane_slots-found.result c.requires.shape (omega arith)

pub returns-clause-taken : goal.returns-clause-taken
returns-clause-taken c = λ start tuples written has.
    let shape = c.args.shape.now in
    let groups = c.args.groups.now in
    let same = same_tuple shape groups c.args.group c.state-state.result (take (length shape.lanes.now) c.lane_slots-found.result) (get_or_from_slice_get (map (λ (g : MapGroup). g.state) groups) c.args.group.at c.state-state.result empty_state c.state-state.ensures) c.lane_slots-found.ensures in
    on_ok_weaker c.push.result (subst (λ (g : Group). Goes shape.kinds.now start (tuples ++ g ∷ []) written c.args.out.now.items c.push.new.out.items c.push.new.self) same) (c.push.ensures.taken start tuples written has)

pub returns-clause-long : goal.returns-clause-long
returns-clause-long c = λ start tuples written has e fit.
    let shape = c.args.shape.now in
    let groups = c.args.groups.now in
    let same = same_tuple shape groups c.args.group c.state-state.result (take (length shape.lanes.now) c.lane_slots-found.result) (get_or_from_slice_get (map (λ (g : MapGroup). g.state) groups) c.args.group.at c.state-state.result empty_state c.state-state.ensures) c.lane_slots-found.ensures in
    c.push.ensures.long start tuples written has e (subst (λ (g : Group). FitInBlocks shape.kinds.now start (tuples ++ g ∷ [])) (sym same) fit)

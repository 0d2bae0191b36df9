use Rattle.std.proofs.Common.{◌≡◌, ◌++◌, ◌∷◌, [], ◌∙◌, ℕ, List, None, ap, append-nil, append_assoc, arith, get_or, map, sym, take}
use Rattle.std.proofs.lemmas.List.{map_more, take_all}
use Rattle.par_model.specs.declared.state.SlotState.{SlotState}
use Rattle.partial_agg.specs.Values.{slot_of_value}
use Rattle.partial_agg.proofs.states.push_lanes.Goals as goal

pub loop-at-init : goal.loop-at-init
loop-at-init c = record {
  items = c.reserve.ensures.items ∙ sym (append-nil c.args.lanes.now.items);
  room = omega (arith, c.in_ok-reserve.ensures.ok);
}

pub loop-at-preserved : goal.loop-at-preserved
loop-at-preserved c =
    let kept = c.args.kept.now in
    let before = c.args.lanes.now.items in
    let slot = λ (at : ℕ). slot_of_value (get_or c.args.values.now at None) in
    let i = c.loop-at.at-index in
    let one : c.slot_of.result ≡ slot (get_or kept i 0) = c.slot_of.ensures ∙ ap slot_of_value c.value_at.ensures in
    record {
      items = c.push_reserved.ensures.items
          ∙ ap (λ (ls : List SlotState). ls ++ c.slot_of.result ∷ []) c.loop-at.invariant.items
          ∙ append_assoc before (map slot (take i kept)) (c.slot_of.result ∷ [])
          ∙ ap (λ (s : SlotState). before ++ (map slot (take i kept) ++ s ∷ [])) one
          ∙ sym (ap (λ (ls : List SlotState). before ++ ls) (map_more slot kept i 0 c.loop-at-test.true));
      room = omega (arith, c.push_reserved.ensures.len, c.push_reserved.ensures.capacity, c.loop-at.invariant.room);
    }

pub returns-clause-ok : goal.returns-clause-ok
returns-clause-ok c =
    let slot = λ (at : ℕ). slot_of_value (get_or c.args.values.now at None) in
    c.loop-at.invariant.items
    ∙ ap (λ (ks : List ℕ). c.args.lanes.now.items ++ map slot ks) (take_all c.loop-at.at-index c.args.kept.now c.loop-at-test.false)

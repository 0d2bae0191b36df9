use Rattle.std.proofs.Common.{◌++◌, ◌∙◌, ℕ, List, take, map, ap, sym, arith, append_assoc, get_or}
use Rattle.std.specs.List.{concat}
use Rattle.std.proofs.lemmas.List.{take_more, take_all}
use Rattle.std.proofs.lemmas.List.Elements.{All-more, All-same}
use Rattle.par_model.specs.Aggregate.{no_values}
use Rattle.par_model.specs.declared.state.SlotState.{SlotState}
use Rattle.tuple_codec.specs.Tuple.{IsSlot, slot_bytes}
use Rattle.tuple_codec.proofs.Words.{slots_bytes-push}
use Rattle.tuple_codec.proofs.write.push_slots.Goals as goal

pub loop-slot-preserved : goal.loop-slot-preserved
loop-slot-preserved c =
    let i = c.loop-slot.slot-index in
    let slots = take c.args.count c.args.slots.now in
    let front = take c.args.tuple.now.len c.args.tuple.now.bytes in
    record {
      bytes = c.push_slot.ensures.bytes
          ∙ ap (λ (bs : List ℕ). bs ++ slot_bytes (get_or slots i no_values)) c.loop-slot.invariant.bytes
          ∙ append_assoc front (concat (map slot_bytes (take i slots))) (slot_bytes (get_or slots i no_values))
          ∙ ap (λ (bs : List ℕ). front ++ bs) (sym (ap (λ (ss : List SlotState). concat (map slot_bytes ss)) (take_more slots i no_values c.loop-slot-test.true) ∙ slots_bytes-push (take i slots) (get_or slots i no_values)));
      len = omega (arith, c.push_slot.ensures.len, c.loop-slot.invariant.len);
      numbers = All-more IsSlot slots i no_values c.loop-slot-test.true c.loop-slot.invariant.numbers c.push_slot.ensures.numbers;
    }

pub returns-clause-numbers : goal.returns-clause-numbers
returns-clause-numbers c =
    let slots = take c.args.count c.args.slots.now in
    All-same IsSlot slots (take c.loop-slot.slot-index slots) (sym (take_all c.loop-slot.slot-index slots c.loop-slot-test.false)) c.loop-slot.invariant.numbers

use Rattle.std.proofs.Common.{◌≡◌, ◌+◌, ◌-◌, ◌*◌, ◌++◌, ◌∙◌, [], ◌∷◌, ℕ, List, take, drop, map, replicate, ap, sym, subst, arith, length-set}
use Rattle.std.specs.List.{AllByRecursion, concat}
use Rattle.std.proofs.Math.Seq.{take-add}
use Rattle.std.proofs.lemmas.List.{drop-drop, drop-replicate, drop-set-lt, take-append-drop, take_more_set}
use Rattle.par_model.specs.Aggregate.{no_values}
use Rattle.par_model.specs.declared.state.SlotState.{SlotState}
use Rattle.tuple_codec.specs.Tuple.{IsSlot, slot_bytes}
use Rattle.tuple_codec.proofs.Words.{all_append, none_slots, slots_bytes-push}
use Rattle.tuple_codec.proofs.read.read_slots.Goals as goal

rest_more : (s : List SlotState) (i : ℕ) → drop i s ≡ replicate (8 - i) no_values → drop (i + 1) s ≡ replicate (8 - (i + 1)) no_values
rest_more s i rest = sym (drop-drop 1 i s) ∙ ap (drop 1) rest ∙ drop-replicate 1 (8 - i) no_values ∙ ap (λ (n : ℕ). replicate n no_values) (sub_sub i)
  where
    sub_sub : (i : ℕ) → 8 - i - 1 ≡ 8 - (i + 1)
    sub_sub i = omega arith

next_run : (bytes : List ℕ) (i : ℕ) → take (40 * (i + 1)) bytes ≡ take (40 * i) bytes ++ take 40 (drop (40 * i) bytes)
next_run bytes i = ap (λ (n : ℕ). take n bytes) (forty i) ∙ take-add (40 * i) 40 bytes
  where
    forty : (i : ℕ) → 40 * (i + 1) ≡ 40 * i + 40
    forty i = omega arith

pub loop-i-preserved : goal.loop-i-preserved
loop-i-preserved c =
    let i = c.loop-i.i in
    let slot = c.slot_at.result in
    let more = take_more_set c.loop-i.slots i slot (omega (arith, c.loop-i.invariant.long)) in
    record {
      long = length-set c.loop-i.slots i slot ∙ c.loop-i.invariant.long;
      bytes = ap (λ (ss : List SlotState). concat (map slot_bytes ss)) more ∙ slots_bytes-push (take i c.loop-i.slots) slot
          ∙ ap (λ (bs : List ℕ). bs ++ slot_bytes slot) c.loop-i.invariant.bytes ∙ ap (λ (bs : List ℕ). take (40 * i) c.args.bytes.now ++ bs) c.slot_at.ensures.bytes
          ∙ sym (next_run c.args.bytes.now i);
      rest = drop-set-lt (i + 1) c.loop-i.slots i slot (omega arith) ∙ rest_more c.loop-i.slots i c.loop-i.invariant.rest;
      numbers = subst (AllByRecursion IsSlot) (sym more) (all_append IsSlot (take i c.loop-i.slots) (slot ∷ []) c.loop-i.invariant.numbers (c.slot_at.ensures.numbers, tt));
    }

pub returns-clause-numbers : goal.returns-clause-numbers
returns-clause-numbers c =
    subst (AllByRecursion IsSlot) (ap (λ (ss : List SlotState). take c.loop-i.i c.loop-i.slots ++ ss) (sym c.loop-i.invariant.rest) ∙ take-append-drop c.loop-i.i c.loop-i.slots)
    (all_append IsSlot (take c.loop-i.i c.loop-i.slots) (replicate (8 - c.loop-i.i) no_values) c.loop-i.invariant.numbers (none_slots (8 - c.loop-i.i)))

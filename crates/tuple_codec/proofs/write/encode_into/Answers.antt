use Rattle.std.proofs.Common.{◌≡◌, ◌++◌, ◌∙◌, [], ◌∷◌, ℕ, List, length, take, map, ap, sym, arith, append_assoc, ◌-◌, ◌<◌, ◌^◌, All, drop, replicate}
use Rattle.std.specs.Int.{to_le_bytes, w32}
use Rattle.std.specs.List.{concat}
use Rattle.std.proofs.lemmas.List.{take-append-drop}
use Rattle.std.proofs.lemmas.List.Elements.{All-append, All-from_get_or, All-replicate, All-same, recursion_from_All}
use Rattle.par_model.specs.Aggregate.{no_values}
use Rattle.tuple_codec.specs.Tuple.{IsSlot, slot_bytes, word}
use Rattle.tuple_codec.proofs.Unique.{length-tuple, tuple_bytes-is}
use Rattle.tuple_codec.proofs.write.encode_into.Goals as goal

five : (a b c d e : List ℕ) → (((a ++ b) ++ c) ++ d) ++ e ≡ a ++ (b ++ (c ++ (d ++ e)))
five a b c d e = simp append_assoc

pub returns-clause-bytes : goal.returns-clause-bytes
returns-clause-bytes c =
    let key = c.args.key.now in
    let state = c.args.state.now in
    let size = to_le_bytes w32 (length key) in
    let tail = concat (map slot_bytes (take c.args.slots state.slots)) in
    let one : take c.push.new.tuple.len c.push.new.tuple.bytes ≡ size =
    c.push.ensures.bytes ∙ c.to_le_bytes.ensures in
    let two = c.push-2.ensures.bytes ∙ ap (λ (bs : List ℕ). bs ++ key) one in
    let three = c.push_word.ensures.bytes ∙ ap (λ (bs : List ℕ). bs ++ word state.rows) two in
    let four = c.push-3.ensures.bytes ∙ ap (λ (bs : List ℕ). bs ++ c.args.slots ∷ []) three in
    c.push_slots.ensures.bytes ∙ ap (λ (bs : List ℕ). bs ++ tail) four ∙ five size key (word state.rows) (c.args.slots ∷ []) tail
    ∙ sym (tuple_bytes-is key state c.args.slots)

pub returns-clause-length : goal.returns-clause-length
returns-clause-length c =
    omega (
      arith,
      c.push_slots.ensures.len,
      c.push-3.ensures.len,
      c.push_word.ensures.len,
      c.push-2.ensures.len,
      c.push.ensures.len,
      ap (length {A = ℕ}) c.to_le_bytes.ensures,
      length-tuple c.args.key.now c.args.state.now c.args.slots (omega (arith, c.push_slots.ensures.long)),
    )

none_numbers : (n : ℕ) → All IsSlot (replicate n no_values)
none_numbers n = All-replicate IsSlot n no_values (grind arith)

pub returns-clause-tuple : goal.returns-clause-tuple
returns-clause-tuple c =
    let key = c.args.key.now in
    let state = c.args.state.now in
    let front = take c.args.slots state.slots in
    let rest = drop c.args.slots state.slots in
    let numbers : All IsSlot (front ++ rest) = All-append IsSlot front rest c.push_slots.ensures.numbers (All-same IsSlot rest (replicate (8 - c.args.slots) no_values) c.requires.zeros (none_numbers (8 - c.args.slots))) in
    record {
      key_fits = c.requires.key;
      key_bytes = recursion_from_All (λ (byte : ℕ). byte < 2 ^ 8) key (All-from_get_or (λ (byte : ℕ). byte < 2 ^ 8) key 0 (λ i l. c.push-2.ensures.fit i));
      rows = c.push_word.ensures.fits;
      few = c.requires.few;
      long = c.push_slots.ensures.long;
      numbers = recursion_from_All IsSlot state.slots (All-same IsSlot state.slots (front ++ rest) (sym (take-append-drop c.args.slots state.slots)) numbers);
      zeros = c.requires.zeros;
    }

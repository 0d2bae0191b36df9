use Rattle.std.proofs.Common.{◌≡◌, ◌<◌, ◌+◌, ◌-◌, ◌^◌, ◌∙◌, ℕ, List, get_or, length, take, drop, map, ap, sym, subst, arith, Fits, w8, length-drop, length-take-le}
use Rattle.std.proofs.lemmas.List.{take_all}
use Rattle.std.specs.List.{AllByRecursion, concat}
use Rattle.tuple_codec.specs.Tuple.{refusal, slot_bytes}
use Rattle.tuple_codec.proofs.Unique.{accepted, read_back, run_bytes, tuple-same, tuple_bytes-is}
use Rattle.tuple_codec.proofs.read.decode_into.Goals as goal

byte_fits : (bytes : List ℕ) → ((i : ℕ) → Fits w8 (get_or bytes i 0)) → (i : ℕ) → get_or bytes i 0 < 2 ^ 8
byte_fits bytes h i = let f = h i in omega arith

four_less : (k : ℕ) → 4 + k - 4 ≡ k
four_less k = omega arith

thirteen : (k : ℕ) → 4 + k + 9 ≡ 13 + k
thirteen k = omega arith

rest_of : (bytes : List ℕ) (k : ℕ) → take (length bytes - (4 + k + 9)) (drop (4 + k + 9) bytes) ≡ drop (13 + k) bytes
rest_of bytes k = take_all (length bytes - (4 + k + 9)) (drop (4 + k + 9) bytes) (omega (arith, length-drop (4 + k + 9) bytes)) ∙ ap (λ (n : ℕ). drop n bytes) (thirteen k)

pub returns-in-Err-clause-written : goal.returns-in-Err-clause-written
returns-in-Err-clause-written c = λ key state slots t e. let refused = c.in-Err.ensures.refused in let none = ap refusal e ∙ accepted key state slots t in cc

pub returns-clause-tuple : goal.returns-clause-tuple
returns-clause-tuple c =
    let shape = c.in-Ok.ensures.shape in
    let bytes = c.args.bytes.now in
    let k = c.in-Ok.shape.key in
    let key = take (4 + k - 4) (drop 4 bytes) in
    let small = λ (i : ℕ). byte_fits bytes c.type_inv.bytes i in
    let is : key ≡ take k (drop 4 bytes) = ap (λ (n : ℕ). take n (drop 4 bytes)) (four_less k) in
    let key_long : length key ≡ k = ap length is ∙ length-take-le k (drop 4 bytes) (omega (arith, length-drop 4 bytes, shape.ends)) in
    let tail : concat (map slot_bytes (take c.in-Ok.shape.slots c.read_slots.new.slots)) ≡ drop (13 + k) bytes = c.read_slots.ensures.bytes ∙ rest_of bytes k in (
      c.in-Ok.shape.slots,
      record {
        key_fits = omega (arith, key_long, shape.key_fits);
        key_bytes = subst (AllByRecursion (λ byte. byte < 2 ^ 8)) (sym is) (run_bytes bytes 4 k small);
        rows = c.word_at-state.type_inv;
        few = shape.few;
        long = c.read_slots.ensures.long;
        numbers = c.read_slots.ensures.numbers;
        zeros = c.read_slots.ensures.zeros;
      },
      tuple_bytes-is key (record { rows = c.word_at-state.result; slots = c.read_slots.new.slots }) c.in-Ok.shape.slots
          ∙ read_back bytes key (concat (map slot_bytes (take c.in-Ok.shape.slots c.read_slots.new.slots))) c.word_at-state.result k c.in-Ok.shape.slots (omega (arith, shape.ends)) small shape.key is c.word_at-state.ensures shape.slots tail,
    )

pub returns-clause-written : goal.returns-clause-written
returns-clause-written c = λ key state slots t e.
    let read = returns-clause-tuple c in
    tuple-same _ key _ state read.0 slots read.1 t (read.2 ∙ e)

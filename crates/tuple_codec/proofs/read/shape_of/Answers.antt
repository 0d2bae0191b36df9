use Rattle.std.proofs.Common.{◌+◌, ◌∙◌, ap, sym, refl, Some, length, slice_index}
use Rattle.tuple_codec.specs.Tuple.{key_length}
use Rattle.tuple_codec.proofs.Shapes.{by_slots, key_length-is, long_key, many_slots, no_count, no_length, refusal-at, short_key, short_rows}
use Rattle.tuple_codec.proofs.read.shape_of.Goals as goal

pub returns-then-size-lt4-clause-refused : goal.returns-then-size-lt4-clause-refused
returns-then-size-lt4-clause-refused c =
    refusal-at c.args.bytes.now _ refl ∙ no_length (length c.args.bytes.now) (key_length c.args.bytes.now) (slice_index c.args.bytes.now (12 + key_length c.args.bytes.now)) c.if-size-lt4.true

pub returns-then-key-gt-LONGEST_KEY-clause-refused : goal.returns-then-key-gt-LONGEST_KEY-clause-refused
returns-then-key-gt-LONGEST_KEY-clause-refused c =
    refusal-at c.args.bytes.now c.from_le_bytes-key.result (key_length-is c.args.bytes.now c.from_le_bytes-key.result c.from_le_bytes-key.ensures)
    ∙ long_key (length c.args.bytes.now) c.from_le_bytes-key.result (slice_index c.args.bytes.now (12 + c.from_le_bytes-key.result)) c.if-size-lt4.false c.if-key-gt-LONGEST_KEY.true

pub returns-then-size-key-clause-refused : goal.returns-then-size-key-clause-refused
returns-then-size-key-clause-refused c =
    refusal-at c.args.bytes.now c.from_le_bytes-key.result (key_length-is c.args.bytes.now c.from_le_bytes-key.result c.from_le_bytes-key.ensures)
    ∙ short_key (length c.args.bytes.now) c.from_le_bytes-key.result (slice_index c.args.bytes.now (12 + c.from_le_bytes-key.result)) c.if-size-lt4.false c.if-key-gt-LONGEST_KEY.false c.if-size-key.true

pub returns-then-size-key-2-clause-refused : goal.returns-then-size-key-2-clause-refused
returns-then-size-key-2-clause-refused c =
    refusal-at c.args.bytes.now c.from_le_bytes-key.result (key_length-is c.args.bytes.now c.from_le_bytes-key.result c.from_le_bytes-key.ensures)
    ∙ short_rows (length c.args.bytes.now) c.from_le_bytes-key.result (slice_index c.args.bytes.now (12 + c.from_le_bytes-key.result)) c.if-size-lt4.false c.if-key-gt-LONGEST_KEY.false c.if-size-key.false c.if-size-key-2.true ∙ ap Some (sym c.short_at.ensures)

pub returns-then-size-key-3-clause-refused : goal.returns-then-size-key-3-clause-refused
returns-then-size-key-3-clause-refused c =
    refusal-at c.args.bytes.now c.from_le_bytes-key.result (key_length-is c.args.bytes.now c.from_le_bytes-key.result c.from_le_bytes-key.ensures)
    ∙ no_count (length c.args.bytes.now) c.from_le_bytes-key.result (slice_index c.args.bytes.now (12 + c.from_le_bytes-key.result)) c.if-size-lt4.false c.if-key-gt-LONGEST_KEY.false c.if-size-key.false c.if-size-key-2.false c.if-size-key-3.true ∙ ap Some (sym c.short_at-then-size-key-3.ensures)

pub returns-then-slots-gt8-clause-refused : goal.returns-then-slots-gt8-clause-refused
returns-then-slots-gt8-clause-refused c =
    refusal-at c.args.bytes.now c.from_le_bytes-key.result (key_length-is c.args.bytes.now c.from_le_bytes-key.result c.from_le_bytes-key.ensures)
    ∙ many_slots (length c.args.bytes.now) c.from_le_bytes-key.result (slice_index c.args.bytes.now (12 + c.from_le_bytes-key.result)) c.if-size-lt4.false c.if-key-gt-LONGEST_KEY.false c.if-size-key.false c.if-size-key-2.false c.if-size-key-3.false c.if-slots-gt8.true

pub returns-in-Some-clause-refused : goal.returns-in-Some-clause-refused
returns-in-Some-clause-refused c =
    refusal-at c.args.bytes.now c.from_le_bytes-key.result (key_length-is c.args.bytes.now c.from_le_bytes-key.result c.from_le_bytes-key.ensures)
    ∙ by_slots (length c.args.bytes.now) c.from_le_bytes-key.result (slice_index c.args.bytes.now (12 + c.from_le_bytes-key.result)) c.if-size-lt4.false c.if-key-gt-LONGEST_KEY.false c.if-size-key.false c.if-size-key-2.false c.if-size-key-3.false c.if-slots-gt8.false ∙ sym c.in-Some.ensures

pub returns-in-None-clause-accepted : goal.returns-in-None-clause-accepted
returns-in-None-clause-accepted c =
    refusal-at c.args.bytes.now c.from_le_bytes-key.result (key_length-is c.args.bytes.now c.from_le_bytes-key.result c.from_le_bytes-key.ensures)
    ∙ by_slots (length c.args.bytes.now) c.from_le_bytes-key.result (slice_index c.args.bytes.now (12 + c.from_le_bytes-key.result)) c.if-size-lt4.false c.if-key-gt-LONGEST_KEY.false c.if-size-key.false c.if-size-key-2.false c.if-size-key-3.false c.if-slots-gt8.false ∙ sym c.in-None.ensures

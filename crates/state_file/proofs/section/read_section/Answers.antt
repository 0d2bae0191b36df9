use Rattle.std.proofs.Common.{◌++◌, ◌∙◌, List, ℕ, length, inl, ap, sym, arith}
use Rattle.std.specs.Int.{to_le_bytes, w32}
use Rattle.state_file.specs.Checksum.{crc32c}
use Rattle.state_file.proofs.Sections.{read_as, section-is, sum_fits, written_as}
use Rattle.state_file.proofs.section.read_section.Goals as goal

pub returns-in_default-clause-written : goal.returns-in_default-clause-written
returns-in_default-clause-written c = λ part rest few e.
    c.in_default.ensures.written (length part) (part ++ (to_le_bytes w32 (crc32c part) ++ rest)) (omega arith) (written_as c.args.bytes.now part rest e)

pub returns-in_default-clause-refused : goal.returns-in_default-clause-refused
returns-in_default-clause-refused c = inl c.in_default.ensures.short

pub returns-then-size-most-clause-written : goal.returns-then-size-most-clause-written
returns-then-size-most-clause-written c = λ part rest few e.
    let a = c.in-Some.ensures.written (length part) (part ++ (to_le_bytes w32 (crc32c part) ++ rest)) (omega arith) (written_as c.args.bytes.now part rest e) in
    let same = a.0 in
    omega (arith, c.if-size-most.true)

pub returns-then-size-most-clause-refused : goal.returns-then-size-most-clause-refused
returns-then-size-most-clause-refused c = (record { after = c.in-Some.after.now; is = c.in-Some.ensures.read }, c.if-size-most.true)

pub returns-in_default-read_sum-clause-written : goal.returns-in_default-read_sum-clause-written
returns-in_default-read_sum-clause-written c = λ part rest few e.
    let a = c.in-Some.ensures.written (length part) (part ++ (to_le_bytes w32 (crc32c part) ++ rest)) (omega arith) (written_as c.args.bytes.now part rest e) in
    c.in_default-read_sum.ensures.written part rest (crc32c part) (sym a.0) (sum_fits part) a.1

pub returns-then-sum-crc32c-clause-written : goal.returns-then-sum-crc32c-clause-written
returns-then-sum-crc32c-clause-written c = λ part rest few e.
    let a = c.in-Some.ensures.written (length part) (part ++ (to_le_bytes w32 (crc32c part) ++ rest)) (omega arith) (written_as c.args.bytes.now part rest e) in
    let b = c.in-Some-read_sum.ensures.written part rest (crc32c part) (sym a.0) (sum_fits part) a.1 in
    c.if-sum-crc32c.true (b.1 ∙ ap crc32c (sym b.0) ∙ sym c.crc32c.ensures)

pub returns-then-sum-crc32c-clause-refused : goal.returns-then-sum-crc32c-clause-refused
returns-then-sum-crc32c-clause-refused c = record {
  part = c.in-Some-read_sum.part.now;
  sum = c.in-Some-read_sum.sum;
  rest = c.in-Some-read_sum.rest.now;
  is = read_as c.args.bytes.now c.in-Some.after.now c.in-Some-read_sum.part.now c.in-Some-read_sum.rest.now c.in-Some.size c.in-Some-read_sum.sum c.in-Some.ensures.read c.in-Some-read_sum.ensures.read.0 c.in-Some-read_sum.ensures.read.1;
  other = λ e. c.if-sum-crc32c.true (e ∙ sym c.crc32c.ensures);
}

pub returns-clause-read : goal.returns-clause-read
returns-clause-read c =
    let part = c.in-Some-read_sum.part.now in
    let rest = c.in-Some-read_sum.rest.now in
    let whole = read_as c.args.bytes.now c.in-Some.after.now part rest c.in-Some.size c.in-Some-read_sum.sum c.in-Some.ensures.read c.in-Some-read_sum.ensures.read.0 c.in-Some-read_sum.ensures.read.1 in
    let long = c.in-Some-read_sum.ensures.read.1 in (
      whole ∙ ap (λ (sum : ℕ). (to_le_bytes w32 (length part) ++ (part ++ to_le_bytes w32 sum)) ++ rest) (c.if-sum-crc32c.false ∙ c.crc32c.ensures) ∙ ap (λ (bs : List ℕ). bs ++ rest) (sym (section-is part)),
      omega (arith, c.if-size-most.false),
    )

pub returns-clause-written : goal.returns-clause-written
returns-clause-written c = λ part rest few e.
    let a = c.in-Some.ensures.written (length part) (part ++ (to_le_bytes w32 (crc32c part) ++ rest)) (omega arith) (written_as c.args.bytes.now part rest e) in
    let b = c.in-Some-read_sum.ensures.written part rest (crc32c part) (sym a.0) (sum_fits part) a.1 in
    (b.0, b.2)

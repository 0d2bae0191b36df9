use Rattle.std.proofs.Common.{◌++◌, ◌∙◌, List, ℕ, length, ap, arith, length-append}
use Rattle.std.specs.Int.{to_le_bytes, w32}
use Rattle.state_file.proofs.section.read_sum.Goals as goal

pub returns-in_default-clause-written : goal.returns-in_default-clause-written
returns-in_default-clause-written c = λ part rest sum long fits e. c.in_default.ensures.written part (to_le_bytes w32 sum ++ rest) long e

pub returns-in-Some-read_u32-clause-read : goal.returns-in-Some-read_u32-clause-read
returns-in-Some-read_u32-clause-read c =
    (c.in-Some.ensures.read.0 ∙ ap (λ (bs : List ℕ). c.in-Some.part.now ++ bs) c.in-Some-read_u32.ensures.read, c.in-Some.ensures.read.1)

pub returns-in-Some-read_u32-clause-written : goal.returns-in-Some-read_u32-clause-written
returns-in-Some-read_u32-clause-written c = λ part rest sum long fits e.
    let a = c.in-Some.ensures.written part (to_le_bytes w32 sum ++ rest) long e in
    let b = c.in-Some-read_u32.ensures.written sum rest fits a.1 in
    (a.0, b.0, b.1)

pub returns-in-None-clause-written : goal.returns-in-None-clause-written
returns-in-None-clause-written c = λ part rest sum long fits e.
    let a = c.in-Some.ensures.written part (to_le_bytes w32 sum ++ rest) long e in
    c.in-None.ensures.written sum rest fits a.1

pub returns-in-None-clause-short : goal.returns-in-None-clause-short
returns-in-None-clause-short c =
    omega (arith, c.in-None.ensures.short, ap (length {A = ℕ}) c.in-Some.ensures.read.0, length-append c.in-Some.part.now c.in-Some.after.now, c.in-Some.ensures.read.1)

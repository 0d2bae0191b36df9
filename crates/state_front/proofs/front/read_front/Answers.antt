use Rattle.std.proofs.Common.{◌≤◌, ◌^◌, ◌++◌, ℕ, List, length, subst}
use Rattle.std.proofs.lemmas.Result.{err_from_is_err_and}
use Rattle.state_file.specs.Section.{section}
use Rattle.state_head.specs.Head.{head_bytes, preface_of}
use Rattle.state_front.proofs.Fronts.{front_long, front_read, front_written, part_none}
use Rattle.state_front.proofs.front.read_front.Goals as goal

pub returns-in_err-after-clause-written : goal.returns-in_err-after-clause-written
returns-in_err-after-clause-written c = λ p rest is e. absurd (c.in_err-after.ensures.written (section (head_bytes p) ++ rest) (front_written c.args.bytes.now rest p e))

pub returns-in_err-head-in-Ok-clause-written : goal.returns-in_err-head-in-Ok-clause-written
returns-in_err-head-in-Ok-clause-written c = λ p rest is e.
    let after = c.in_ok-after.ensures.written (section (head_bytes p) ++ rest) (front_written c.args.bytes.now rest p e) in
    let found = c.in-Ok.ensures.written (head_bytes p) rest is.short after in
    let why = err_from_is_err_and c.from_residual-in_err-head-in-Ok.result c.from_residual-in_err-head-in-Ok.ensures.1 in
    rw (why.1, why.2) (c.in_err-head-in-Ok.ensures.written p is.is_head found.0)

pub returns-in_err-head-in-Ok-clause-refused : goal.returns-in_err-head-in-Ok-clause-refused
returns-in_err-head-in-Ok-clause-refused c =
    let why = err_from_is_err_and c.from_residual-in_err-head-in-Ok.result c.from_residual-in_err-head-in-Ok.ensures.1 in
    let two = c.in-Ok.ensures.read in
    rw (why.1, why.2) (part_none c.args.bytes.now c.in_ok-after.after.now c.in-Ok.part.now c.in-Ok.rest.now c.in_err-head-in-Ok.field-0.0 c.in_ok-after.ensures.read two.0 two.1 c.in_err-head-in-Ok.ensures.refused)

pub returns-in_ok-head-in-Ok-clause-read : goal.returns-in_ok-head-in-Ok-clause-read
returns-in_ok-head-in-Ok-clause-read c =
    let p = preface_of c.in_ok-head-in-Ok.head in
    let two = c.in-Ok.ensures.read in
    let three = c.in_ok-head-in-Ok.ensures.read in
    let whole = front_read c.args.bytes.now c.in_ok-after.after.now c.in-Ok.part.now c.in-Ok.rest.now p c.in_ok-after.ensures.read two.0 three.0 in
    (whole, record { is_head = three.1; short = subst (λ (bs : List ℕ). length bs ≤ 2 ^ 28) three.0 two.1 }, front_long c.args.bytes.now c.in-Ok.rest.now p whole)

pub returns-in_ok-head-in-Ok-clause-written : goal.returns-in_ok-head-in-Ok-clause-written
returns-in_ok-head-in-Ok-clause-written c = λ p rest is e.
    let after = c.in_ok-after.ensures.written (section (head_bytes p) ++ rest) (front_written c.args.bytes.now rest p e) in
    let found = c.in-Ok.ensures.written (head_bytes p) rest is.short after in
    (c.in_ok-head-in-Ok.ensures.written p is.is_head found.0, found.1)

pub returns-in-Err-clause-written : goal.returns-in-Err-clause-written
returns-in-Err-clause-written c = λ p rest is e.
    let after = c.in_ok-after.ensures.written (section (head_bytes p) ++ rest) (front_written c.args.bytes.now rest p e) in
    absurd (c.in-Err.ensures.written (head_bytes p) rest is.short after)

pub returns-in-Err-clause-refused : goal.returns-in-Err-clause-refused
returns-in-Err-clause-refused c = record { rest = c.in_ok-after.after.now; is = c.in_ok-after.ensures.read; none = c.in-Err.ensures.refused }

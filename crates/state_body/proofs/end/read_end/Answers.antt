use Rattle.std.proofs.Common.{◌≤◌, ◌^◌, ◌++◌, List, ℕ, length, subst}
use Rattle.state_body.proofs.Ends.{end_read, end_written, if_ok, length_bytes, not_same, same_of}
use Rattle.state_body.proofs.end.read_end.Goals as goal

pub returns-then-eq-clause-read : goal.returns-then-eq-clause-read
returns-then-eq-clause-read c =
    let two = c.in-Ok.ensures.read in
    let same = same_of c.in-Ok.part.now c.args.foot.now c.eq.result c.eq.ensures c.if-eq.true in
    if_ok c.read_length.result (λ rest is. (
      end_read c.args.bytes.now c.in-Ok.after.now rest.now c.in-Ok.part.now c.args.foot.now two.0 same is,
      subst (λ (bs : List ℕ). length bs ≤ 2 ^ 28) same two.1,
    )) c.read_length.ensures.read

pub returns-then-eq-clause-written : goal.returns-then-eq-clause-written
returns-then-eq-clause-written c = λ rest short e.
    let found = c.in-Ok.ensures.written c.args.foot.now (length_bytes c.args.foot.now ++ rest) short (end_written c.args.bytes.now c.args.foot.now rest e) in
    c.read_length.ensures.written rest found.1

pub returns-else-eq-clause-written : goal.returns-else-eq-clause-written
returns-else-eq-clause-written c = λ rest short e.
    let found = c.in-Ok.ensures.written c.args.foot.now (length_bytes c.args.foot.now ++ rest) short (end_written c.args.bytes.now c.args.foot.now rest e) in
    not_same c.in-Ok.part.now c.args.foot.now c.eq.result c.eq.ensures c.if-eq.false found.0

pub returns-in-Err-clause-written : goal.returns-in-Err-clause-written
returns-in-Err-clause-written c = λ rest short e. c.in-Err.ensures.written c.args.foot.now (length_bytes c.args.foot.now ++ rest) short (end_written c.args.bytes.now c.args.foot.now rest e)

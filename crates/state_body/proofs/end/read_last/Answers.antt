use Rattle.std.proofs.Common.{◌≡◌, ◌++◌, ◌∙◌, refl, sym}
use Rattle.state_body.specs.Body.{last_bytes}
use Rattle.state_body.proofs.Ends.{last_written, not_same}
use Rattle.state_body.proofs.end.read_last.Goals as goal

pub returns-in_default-clause-written : goal.returns-in_default-clause-written
returns-in_default-clause-written c = λ n rest few e. c.in_default.ensures.written n (last_bytes ++ rest) few (last_written c.args.bytes.now rest n e)

pub returns-else-eq-clause-written : goal.returns-else-eq-clause-written
returns-else-eq-clause-written c = λ n rest few e.
    let one = c.in-Some.ensures.written n (last_bytes ++ rest) few (last_written c.args.bytes.now rest n e) in
    let two = c.in-Some-read_bytes.ensures.written last_bytes rest refl one.1 in
    let last : c.as_slice.result.now ≡ last_bytes = c.as_slice.ensures in
    not_same c.in-Some-read_bytes.last.now c.as_slice.result.now c.eq.result c.eq.ensures c.if-eq.false (two.0 ∙ sym last)

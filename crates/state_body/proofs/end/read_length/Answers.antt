use Rattle.std.proofs.Common.{◌<◌, ◌≤◌, ◌^◌, ℕ, arith}
use Rattle.state_body.proofs.Ends.{no_room}
use Rattle.state_body.proofs.end.read_length.Goals as goal

fits : (size : ℕ) → size ≤ 2 ^ 28 → size < 2 ^ 32
fits size few = omega (arith, few)

pub returns-then-bytes-lt-END_BYTES-clause-written : goal.returns-then-bytes-lt-END_BYTES-clause-written
returns-then-bytes-lt-END_BYTES-clause-written c = λ rest e. no_room c.args.bytes.now rest c.args.size (omega (arith, c.if-bytes-lt-END_BYTES.true)) e

pub returns-then-found-size-clause-written : goal.returns-then-found-size-clause-written
returns-then-found-size-clause-written c = λ rest e. (c.in-Some.ensures.written c.args.size rest (fits c.args.size c.requires) e).1

pub returns-else-found-size-clause-written : goal.returns-else-found-size-clause-written
returns-else-found-size-clause-written c = λ rest e. c.if-found-size.false (c.in-Some.ensures.written c.args.size rest (fits c.args.size c.requires) e).0

pub returns-else-found-size-clause-refused : goal.returns-else-found-size-clause-refused
returns-else-found-size-clause-refused c =
    (omega (arith, c.if-bytes-lt-END_BYTES.false), λ more e. c.if-found-size.false (c.in-Some.ensures.written c.args.size more (fits c.args.size c.requires) e).0)

pub returns-in-None-clause-written : goal.returns-in-None-clause-written
returns-in-None-clause-written c = λ rest e. c.in-None.ensures.written c.args.size rest (fits c.args.size c.requires) e

pub returns-in-None-clause-refused : goal.returns-in-None-clause-refused
returns-in-None-clause-refused c = (omega (arith, c.if-bytes-lt-END_BYTES.false), λ more e. c.in-None.ensures.written c.args.size more (fits c.args.size c.requires) e)

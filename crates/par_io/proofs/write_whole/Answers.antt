use Rattle.std.proofs.Common.{rules, ◌≤◌, ◌+◌, length, arith}
use Rattle.std.proofs.lemmas.List.{length-drop, take_all, take_rest}
use Rattle.std.proofs.KnownBytes.{Appends-kept, Appends-nil, Appends-trans}
use Rattle.std.proofs.Math.Seq.{take-add}
use Rattle.par_io.proofs.write_whole.Goals as goal

pub pieces-init : goal.pieces-init
pieces-init g c = record { within = omega arith; taken = Appends-nil (g.O.Sink.taken c.args.sink.now); kept = omega arith }

pub returns-in-Err-clause-prefix : goal.returns-in-Err-clause-prefix
returns-in-Err-clause-prefix g c = (c.pieces.at, Appends-kept _ _ _ _ c.pieces.invariant.taken c.in-Err.ensures.bytes)

pub returns-in-Err-clause-cause : goal.returns-in-Err-clause-cause
returns-in-Err-clause-cause g c =
    let cause = c.in-Err.ensures.cause in
    record { kept = omega (arith, cause.kept); failed = omega (arith, cause.failed) }

pub pieces-preserved : goal.pieces-preserved
pieces-preserved g c =
    let cause = c.in-Ok.ensures.cause in
    let size = length-drop c.pieces.at c.args.bytes.now in
    let within : c.pieces.at + c.in-Ok.count ≤ length c.args.bytes.now = search rules in
    record {
      within = within;
      taken = rw (take-add c.pieces.at c.in-Ok.count c.args.bytes.now) (Appends-trans _ _ _ _ _ c.pieces.invariant.taken (rw (take_rest c.args.bytes.now c.pieces.at) at c.in-Ok.ensures.bytes));
      kept = omega (arith, cause.kept);
    }

pub returns-clause-whole : goal.returns-clause-whole
returns-clause-whole g c =
    let all : length c.args.bytes.now ≤ c.pieces.at = omega (arith, c.pieces-test.false) in
    rw (take_all c.pieces.at c.args.bytes.now all) at c.pieces.invariant.taken

pub returns-clause-cause : goal.returns-clause-cause
returns-clause-cause g c = record { kept = c.pieces.invariant.kept; failed = tt }

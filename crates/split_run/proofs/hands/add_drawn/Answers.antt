use Rattle.std.proofs.Common.{◌<◌, ◌∙◌, arith, length}
use Rattle.scan_claim.specs.Shown.{blocks_of, draws_of}
use Rattle.split_run.proofs.Drawn.{accepted_piece, added_piece, columns_at, counted_piece, late_accepted, refused_at}
use Rattle.split_run.proofs.hands.add_drawn.Goals as goal

pub returns-in_default-clause-accepted : goal.returns-in_default-clause-accepted
returns-in_default-clause-accepted g c =
    late_accepted c.args.pieces.now c.args.plan.now (blocks_of c.args.claims.now) (draws_of c.loop.claim) (draws_of c.claim.new.self) c.requires.pieces c.in_default.ensures.too_many c.loop.invariant.accepted

pub add_piece-requires : goal.add_piece-requires
add_piece-requires g c =
    let pieces = c.args.pieces.now in
    let n = c.in-Some-claim.number in
    let low : n < length pieces = omega (arith, c.in-Some-claim.ensures.drawn.0, c.requires.pieces) in
    record { columns = columns_at pieces n c.index-pieces-number.result low c.index-pieces-number.is c.args.plan.now c.requires.columns }

pub loop-preserved : goal.loop-preserved
loop-preserved g c =
    let plan = c.args.plan.now in
    let pieces = c.args.pieces.now in
    let was = draws_of c.loop.claim in
    let now = draws_of c.claim.new.self in
    let n = c.in-Some-claim.number in
    let p = c.index-pieces-number.result in
    let is = c.index-pieces-number.is in
    let more = c.in-Some-claim.ensures.drawn.1 in
    let low : n < length pieces = omega (arith, c.in-Some-claim.ensures.drawn.0, c.requires.pieces) in
    record {
      can_next = tt;
      finite = tt;
      seat = c.claim.ensures.same.0;
      number = c.claim.ensures.same.1 ∙ c.loop.invariant.number;
      added = added_piece pieces n p low is was now more plan c.args.groups.now c.loop.groups c.add_piece.new.groups c.loop.invariant.added c.in-Ok.ensures.added;
      accepted = accepted_piece pieces n p low is was now more plan c.loop.invariant.accepted c.in-Ok.ensures.accepted;
      count = counted_piece pieces n p low is was now more c.loop.count c.saturating_add-count.result c.loop.invariant.count (omega (arith, c.saturating_add-count.ensures, c.in-Ok.ensures.count));
    }

pub returns-in-Err-clause-stopped : goal.returns-in-Err-clause-stopped
returns-in-Err-clause-stopped g c =
    let pieces = c.args.pieces.now in
    let n = c.in-Some-claim.number in
    let low : n < length pieces = omega (arith, c.in-Some-claim.ensures.drawn.0, c.requires.pieces) in
    refused_at pieces n c.index-pieces-number.result low c.index-pieces-number.is c.args.plan.now c.in-Err.why c.in-Err.ensures.refused

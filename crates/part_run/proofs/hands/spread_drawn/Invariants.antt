use Rattle.std.proofs.Common.{◌≡◌, length, min}
use Rattle.scan_claim.specs.Shown.{Belongs, draws_of, number_of}
use Rattle.split_run.specs.Hands.{most}
use Rattle.split_run.specs.Pieces.{AreAccepted, drawn_rows}
use Rattle.part_run.specs.Carrying.{spread}
use Rattle.part_run.proofs.hands.spread_drawn.Given as goal

-- the lists have the rows of the pieces so far, and none of these is refused
abbrev pub invariant-loop : goal.invariant-loop
invariant-loop g l = record {
  can_next : (goal.iterator-loop g).can_next l.iterator';
  finite : (goal.iterator-loop g).is_finite l.iterator';
  seat : Belongs l.claims l.claim;
  number : number_of l.claim ≡ number_of l.initial.claim;
  lists : l.lists ≡ spread l.plan l.initial.lists (drawn_rows l.pieces (draws_of l.claim));
  accepted : AreAccepted l.plan l.pieces (drawn_rows l.pieces (draws_of l.claim));
  count : l.count ≡ min (length (drawn_rows l.pieces (draws_of l.claim))) most;
}

use Rattle.std.proofs.Common.{◌≡◌}
use Rattle.scan_claim.specs.Shown.{Belongs, number_of}
use Rattle.uses_words.proofs.claims.draw_all.Given as goal

abbrev pub invariant-loop : goal.invariant-loop
invariant-loop g l = record {
  can_next : (goal.iterator-loop g).can_next l.iterator';
  finite : (goal.iterator-loop g).is_finite l.iterator';
  here : Belongs l.claims l.seat;
  same : number_of l.seat ≡ number_of l.fn.seat;
}

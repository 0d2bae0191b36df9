use Rattle.scan_claim.specs.Shown.{Belongs}
use Rattle.hash_join.specs.Stores.{DidDraw, Holds, IsSame}
use Rattle.hash_join.proofs.filling.put_blocks.Given as goal

abbrev pub invariant-loop : goal.invariant-loop
invariant-loop g l = record {
  can_next : (goal.iterator-loop g).can_next l.iterator';
  finite : (goal.iterator-loop g).is_finite l.iterator';
  own : Holds l.store l.filler;
  seat : Belongs l.claims l.filler.claim;
  same : IsSame l.initial.filler l.filler;
  drawn : DidDraw l.rows l.column l.filler;
}

use Rattle.std.proofs.Common.{◌≡◌, false}
use Rattle.worker_run.proofs.notices.hear_last.Given as goal

abbrev pub invariant-loop : goal.invariant-loop
invariant-loop g l = record {
  can_next : (goal.iterator-loop g).can_next l.iterator';
  finite : (goal.iterator-loop g).is_finite l.iterator';
  region : l.errors.region ≡ l.initial.errors.region;
  ring : l.errors.end.ring ≡ l.initial.errors.end.ring;
  stays : l.errors.end.gone ≡ false;
}
